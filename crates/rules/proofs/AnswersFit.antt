-- What every call answers fits 32 bits: a value is a count of what a table can hold, and a place is within the longest table or is the room
-- that an answer takes.
-- Assumes nothing.
use Prim.Native.Nat.{ℕ, zero, suc, ◌*◌, ◌≤◌, ◌<◌}
use mathlib.Core.Path.{◌≡◌, refl}
use mathlib.Core.Bool.{Bool, true, false, cond}
use mathlib.Core.List.{List, [], ◌∷◌, ◌++◌}
use native.Mathlib.Omega.{arith}
use lib.Dec.{leb}
use lib.ListN.{length, drop, length-append}
use Rattle.rules.specs.Table.{Table}
use Rattle.rules.specs.Reading.{Reading, Is, Refused, byte, read}
use Rattle.rules.specs.Accepted.{Accepted}
use Rattle.rules.specs.Preemption.{may_preempt}
use Rattle.rules.specs.Priorities.{Walk, shown, walk, thresholds, has_thresholds}
use Rattle.rules.specs.Calls.{Answer, Value, Refusal, Left, refusing, writing, reading, preempts_call, races_call, illegal_call, thresholds_call}
use Rattle.rules.proofs.Accepted.{accepted}
use Rattle.rules.specs.Races.{races, illegals}
use Rattle.rules.specs.Listing.{findings, writing_text, listing_call}
use Rattle.rules.proofs.Places.{refusal_within}
use Rattle.rules.proofs.FewPairs.{bytes_length, races_few, illegals_few}
use Rattle.rules.proofs.ListingRoom.{findings_length}

-- The value, or the place, is at most m.
abbrev pub Fits : ℕ → Answer → Type 0
Fits m (Value v) = v ≤ m
Fits m (Refusal n p) = p ≤ m

-- A call that reads the bytes first fits where it fits for every table.
module _ (b : List ℕ) (m : ℕ) (h : 1253 ≤ m) where
  pub reading_fits : (f : Table → Answer) → ((t : Table) → Accepted t → Fits m (f t)) → Fits m (reading (read b) Refusal f)
  unfolding reading
  reading_fits f g = side (read b) refl
    where
      side : (r : Reading) → read b ≡ r → Fits m (reading r Refusal f)
      side (Is t) e = (unfold reading in g t (accepted b t e))
      side (Refused n p) e = (unfold reading in omega (arith, refusal_within b n p e))

  pub left_fits :
      (out : List ℕ) (f : Table → Left) → ((t : Table) → Accepted t → Fits m (f t).answer)
      → Fits m (reading (read b) (λ n p. refusing n p out) f).answer
  unfolding reading refusing
  left_fits out f g = side (read b) refl
    where
      side : (r : Reading) → read b ≡ r → Fits m (reading r (λ n p. refusing n p out) f).answer
      side (Is t) e = (unfold reading in g t (accepted b t e))
      side (Refused n p) e = (unfold reading refusing in omega (arith, refusal_within b n p e))

-- Writing fits where the bytes and the value do.
pub writing_fits : (m : ℕ) (bs : List ℕ) (v : ℕ) (out : List ℕ) → length bs ≤ m → v ≤ m → Fits m (writing bs v out).answer
unfolding writing refusing
writing_fits m bs v out h l = side (leb (length bs) (length out))
  where
    side : (c : Bool) → Fits m (cond c (record { answer = Value v; buffer = bs ++ drop (length bs) out }) (refusing 12 (length bs) out)).answer
    side true = l
    side false = (unfold refusing in h)

pub preempts_fits : (b : List ℕ) (x u : ℕ) → Fits 1253 (preempts_call b x u)
unfolding preempts_call
preempts_fits b x u = reading_fits b 1253 (omega arith) _ (λ t ok. side (may_preempt t.tree x u))
  where
    side : (c : Bool) → cond c 1 0 ≤ 1253
    side true = omega arith
    side false = omega arith

-- Two bytes a node.
shown_length : (w : Walk) (n : ℕ) → length (shown w n) ≡ n * 2
unfolding shown
shown_length w zero = refl
shown_length w (suc n) = omega (arith, length-append (shown w n) (w.priority n ∷ w.threshold n ∷ []), shown_length w n)

pub thresholds_fits : (b out : List ℕ) → Fits 1253 (thresholds_call b out).answer
unfolding thresholds_call
thresholds_fits b out = left_fits b 1253 (omega arith) out _ (λ t ok. side t ok (has_thresholds t.tree))
  where
    side : (t : Table) → Accepted t → (c : Bool) → Fits 1253 (cond c (writing (thresholds t.tree) (t.tree.nodes * 2) out) (refusing 13 0 out)).answer
    side t ok true =
        let l : length (thresholds t.tree) ≡ t.tree.nodes * 2 = (unfold thresholds in shown_length (walk t.tree) t.tree.nodes) in
        let k = ok.tree.few in
        writing_fits 1253 _ _ out (omega arith) (omega arith)
    side t ok false = (unfold refusing in omega arith)

pub races_fits : (b out : List ℕ) → Fits 32768 (races_call b out).answer
unfolding races_call
races_fits b out = left_fits b 32768 (omega arith) out _ (λ t ok.
    let h = races_few t ok in
    let l = bytes_length (races t) in
    writing_fits 32768 _ _ out (omega arith) (omega arith))

pub illegal_fits : (b out : List ℕ) → Fits 32768 (illegal_call b out).answer
unfolding illegal_call
illegal_fits b out = left_fits b 32768 (omega arith) out _ (λ t ok.
    let h = illegals_few t ok in
    let l = bytes_length (illegals t) in
    writing_fits 32768 _ _ out (omega arith) (omega arith))

-- Labels are two bytes, where the input is bytes.
pub listing_fits : (b out : List ℕ) → ((p : ℕ) → byte b p < 256) → Fits 520218 (listing_call b out).answer
unfolding listing_call writing_text
listing_fits b out bytes = let h = findings_length b bytes in writing_fits 520218 (findings b) _ out h h

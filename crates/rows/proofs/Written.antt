-- Writes into a buffer, one after the other, and a buffer that is written from its start on.
-- Assumes nothing.
use Prim.Native.Nat.{ℕ, suc, ◌+◌, ◌≤◌}
use mathlib.Core.Path.{◌≡◌, refl, sym, ◌∙◌, ap}
use mathlib.Core.List.{List, [], ◌∷◌, ◌++◌}
use native.Mathlib.Omega.{arith}
use lib.ListN.{length, set, drop, length-append}
use lib.Seq.{sets, sets-eq, set_out, length-sets}
use Rattle.rows.specs.Writing.{Wrote}

pub sets_append : (xs ys l : List ℕ) (k : ℕ) → sets l k (xs ++ ys) ≡ sets (sets l k xs) (k + length xs) ys
sets_append [] ys l k = let z : k ≡ k + 0 = omega arith in ap (λ (n : ℕ). sets l n ys) z
sets_append (x ∷ xs) ys l k =
    let z : suc k + length xs ≡ k + suc (length xs) = omega arith in
    sets_append xs ys (set l k x) (suc k) ∙ ap (λ (n : ℕ). sets (sets (set l k x) (suc k) xs) n ys) z

pub none : {l : List ℕ} {k : ℕ} → Wrote l k [] l k
none = record { bytes = refl; place = omega arith }

pub next : {l m n xs ys : List ℕ} {k j r : ℕ} → Wrote l k xs m j → Wrote m j ys n r → Wrote l k (xs ++ ys) n r
next {l} {m} {n} {xs} {ys} {k} {j} e f =
    record {
      bytes = f.bytes ∙ rw (e.bytes, e.place) (sym (sets_append xs ys l k));
      place = omega (arith, f.place, e.place, length-append xs ys);
    }

-- One byte, inside the buffer and past its end.
pub one : {l : List ℕ} {k b : ℕ} → Wrote l k (b ∷ []) (set l k b) (k + 1)
one = record { bytes = refl; place = refl }

pub one_past : {l : List ℕ} {k b : ℕ} → length l ≤ k → Wrote l k (b ∷ []) l (k + 1)
one_past {l} {k} {b} h = record { bytes = sym (set_out l k b h); place = refl }

pub same_room : {l vs m : List ℕ} {k r : ℕ} → Wrote l k vs m r → length m ≡ length l
same_room {l} {vs} {m} {k} e = ap length e.bytes ∙ length-sets l k vs

-- What is written, from where on, tells the buffer and the place after it.
pub wrote_same : {l vs m₁ m₂ : List ℕ} {k r₁ r₂ : ℕ} → Wrote l k vs m₁ r₁ → Wrote l k vs m₂ r₂ → (r₁ ≡ r₂) × (m₁ ≡ m₂)
wrote_same p q = (p.place ∙ sym q.place, p.bytes ∙ sym q.bytes)

-- From the start on: the bytes, and what stood after them.
pub from_start : {l vs m : List ℕ} {r : ℕ} → Wrote l 0 vs m r → length vs ≤ length l → m ≡ vs ++ drop (length vs) l
from_start {l} {vs} e h =
    let z : 0 + length vs ≡ length vs = omega arith in
    e.bytes ∙ sets-eq vs l 0 (omega arith) ∙ ap (λ (n : ℕ). vs ++ drop n l) z

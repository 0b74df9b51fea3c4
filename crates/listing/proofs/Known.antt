-- What a caller learns from the answer of the listing call: the number of bytes is the text's length and within the buffer; a refusal is 12
-- with that length; and a buffer of 520,218 bytes is never refused.
-- Assumes nothing.
use Prim.Native.Nat.{ℕ, ◌<◌, ◌≤◌}
use mathlib.Core.Path.{◌≡◌, refl, sym, ◌∙◌, ap}
use mathlib.Core.Bool.{Bool, true, false, cond}
use mathlib.Core.List.{List, ◌++◌}
use native.Mathlib.Omega.{arith}
use lib.Dec.{leb}
use lib.ListN.{length, drop, length-append}
use borrow.Author.Tests.{leb-false}
use Rattle.std.specs.Prelude.{Result, Ok, Err}
use Rattle.rules.specs.Reading.{byte}
use Rattle.rules.specs.Calls.{Left, Value, Refusal, writing, refusing}
use Rattle.rules.specs.Listing.{findings, writing_text, listing_call}
use Rattle.rules.proofs.ListingRoom.{findings_length}
use Rattle.table.specs.declared.refusals.Fault.{Fault}
use Rattle.table.specs.declared.refusals.Refusal.TheVariants.{Room}
use Rattle.table.specs.Answers.{numbered, number, left}
use Rattle.table.proofs.Faults.{fault_same}

abbrev pub no_room : ℕ → Fault
no_room p = record { refusal = Room; place = p }

room_is : (f : Fault) (p : ℕ) → number f ≡ 12 → f.place ≡ p → f ≡ no_room p
unfolding numbered number
room_is f p n q = fault_same f (no_room p) n q

-- A call that answered r about the bytes b, with a buffer that held l and now holds m.
module _ (b l m : List ℕ) (r : Result ℕ Fault) (e : left r m ≡ listing_call b l) where
  pub written_length : (n : ℕ) → r ≡ Ok n → (n ≡ length (findings b)) × (n ≤ length m)
  unfolding listing_call writing_text writing
  written_length n q = side (leb (length (findings b)) (length l)) (sym (ap (λ (x : Result ℕ Fault). left x m) q) ∙ e)
    where
      side : (c : Bool)
          → left (Ok n) m ≡ cond c (record { answer = Value (length (findings b)); buffer = findings b ++ drop (length (findings b)) l }) (refusing 12 (length (findings b)) l)
          → (n ≡ length (findings b)) × (n ≤ length m)
      side true e =
          let v : Value n ≡ Value (length (findings b)) = (unfold left in ap (λ (x : Left). x.answer) e) in
          let c : n ≡ length (findings b) = cc in
          let d : m ≡ findings b ++ drop (length (findings b)) l = (unfold left in ap (λ (x : Left). x.buffer) e) in
          (c, rw (d, length-append) (omega arith))
      side false e =
          let v : Value n ≡ Refusal 12 (length (findings b)) = (unfold left refusing in ap (λ (x : Left). x.answer) e) in
          let z : ◌≡◌ {A = ℕ} 0 1 = cc in
          absurd (omega arith)

  pub refused_room : (f : Fault) → r ≡ Err f → (f ≡ no_room (length (findings b))) × (length l < length (findings b))
  unfolding listing_call writing_text writing
  refused_room f q = side (leb (length (findings b)) (length l)) refl (sym (ap (λ (x : Result ℕ Fault). left x m) q) ∙ e)
    where
      side : (c : Bool) → leb (length (findings b)) (length l) ≡ c
          → left (Err f) m ≡ cond c (record { answer = Value (length (findings b)); buffer = findings b ++ drop (length (findings b)) l }) (refusing 12 (length (findings b)) l)
          → (f ≡ no_room (length (findings b))) × (length l < length (findings b))
      side true h e =
          let v : Refusal (number f) f.place ≡ Value (length (findings b)) = (unfold left refusing in ap (λ (x : Left). x.answer) e) in
          let z : ◌≡◌ {A = ℕ} 0 1 = cc in
          absurd (omega arith)
      side false h e =
          let v : Refusal (number f) f.place ≡ Refusal 12 (length (findings b)) = (unfold left refusing in ap (λ (x : Left). x.answer) e) in
          let n : number f ≡ 12 = cc in
          let p : f.place ≡ length (findings b) = cc in
          (room_is f _ n p, leb-false (length (findings b)) (length l) h)

  pub never_refused : ((p : ℕ) → byte b p < 256) → 520218 ≤ length l → (f : Fault) → r ≡ Err f → ⊥
  never_refused bytes h f q = omega (arith, (refused_room f q).1, findings_length b bytes)

-- The contract of each public function leaves one answer and one state, and that of a place made of its byte one place.
-- Assumes nothing.
use Prim.Native.Nat.{ℕ}
use contract.Lifetimes.{Lfts}
use denote.Triple.Clauses.{AtExit}
use borrow.Fn.Kinds.{Dens, res_t, ended_of}
use mathlib.Core.Path.{◌≡◌, refl, sym, ◌∙◌, ap}
use mathlib.Core.List.{List}
use native.Mathlib.Omega.{arith}
use Rattle.std.specs.Prelude.{Result, Ok, Err}
use Rattle.rules.specs.Calls.{Left, Value, Refusal, refusing}
use Rattle.table.specs.declared.refusals.Fault.{Fault}
use Rattle.table.specs.Answers.{number}
use Rattle.table.proofs.Faults.{fault_same}
use Rattle.machine.specs.declared.State.{State}
use Rattle.machine.specs.declared.places.Place.{Place}
use Rattle.machine.specs.declared.places.Place.TheVariants.{Idle, Outside, Inside}
use Rattle.machine.specs.Answers.{left}
use Rattle.machine.specs.Places.{byte_of}
use Rattle.machine.proofs.places.PlaceFromU8.from.Kinds as place-kinds
use Rattle.machine.proofs.places.PlaceFromU8.from.Reads as place-reads
use Rattle.machine.proofs.State.fresh.Kinds as fresh-kinds
use Rattle.machine.proofs.State.fresh.Reads as fresh-reads
use Rattle.machine.proofs.State.step.Kinds as step-kinds
use Rattle.machine.proofs.State.step.Reads as step-reads

-- The places are the state.
pub places_same : (a c : State) → a.places ≡ c.places → a ≡ c
places_same a c e = ap (λ (p : List ℕ). record { places = p }) e

-- What is left tells the next state, or the fault.
pub left_same : (s : State) (a c : Result State Fault) → left s a ≡ left s c → a ≡ c
unfolding left refusing
left_same s (Ok a) (Ok c) e = ap Ok (places_same a c (ap (λ (l : Left). l.buffer) e))
left_same s (Ok a) (Err g) e = let w : Value 0 ≡ Refusal (number g) g.place = ap (λ (l : Left). l.answer) e in cc
left_same s (Err f) (Ok c) e = let w : Refusal (number f) f.place ≡ Value 0 = ap (λ (l : Left). l.answer) e in cc
left_same s (Err f) (Err g) e =
    let w : Refusal (number f) f.place ≡ Refusal (number g) g.place = ap (λ (l : Left). l.answer) e in
    let n : number f ≡ number g = cc in
    let p : f.place ≡ g.place = cc in
    ap Err (fault_same f g n p)

pub fresh_unique :
    (κs : Lfts 0) (a : Dens κs fresh-kinds.ps) (r₁ r₂ : (res_t fresh-kinds.r κs).Denot) (s₁ s₂ : AtExit (ended_of 0 fresh-kinds.ps fresh-kinds.r) κs)
    → fresh-reads.Post κs a r₁ s₁ → fresh-reads.Post κs a r₂ s₂ → r₁ ≡ r₂
fresh_unique κs a r₁ r₂ s₁ s₂ p q = places_same r₁ r₂ (p ∙ sym q)

pub step_unique :
    (κs : Lfts 1) (a : Dens κs step-kinds.ps) (r₁ r₂ : (res_t step-kinds.r κs).Denot) (s₁ s₂ : AtExit (ended_of 1 step-kinds.ps step-kinds.r) κs)
    → step-reads.Post κs a r₁ s₁ → step-reads.Post κs a r₂ s₂ → r₁ ≡ r₂
step_unique κs a r₁ r₂ s₁ s₂ p q = left_same a.0 r₁ r₂ (p ∙ sym q)

-- No two places have one byte.
place_same : (p q : Place) → byte_of p ≡ byte_of q → p ≡ q
unfolding byte_of
place_same Idle Idle e = refl
place_same Idle Outside e = absurd (omega arith)
place_same Idle (Inside j) e = absurd (omega arith)
place_same Outside Idle e = absurd (omega arith)
place_same Outside Outside e = refl
place_same Outside (Inside j) e = absurd (omega arith)
place_same (Inside i) Idle e = absurd (omega arith)
place_same (Inside i) Outside e = absurd (omega arith)
place_same (Inside i) (Inside j) e = let w : i ≡ j = omega arith in ap Inside w

pub place_from_unique :
    (κs : Lfts 0) (a : Dens κs place-kinds.ps) (r₁ r₂ : (res_t place-kinds.r κs).Denot) (s₁ s₂ : AtExit (ended_of 0 place-kinds.ps place-kinds.r) κs)
    → place-reads.Post κs a r₁ s₁ → place-reads.Post κs a r₂ s₂ → r₁ ≡ r₂
place_from_unique κs a r₁ r₂ s₁ s₂ p q = place_same r₁ r₂ (p ∙ sym q)

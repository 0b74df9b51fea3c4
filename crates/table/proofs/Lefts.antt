-- What a call with a lent buffer leaves tells its answer and every byte of the buffer.
-- Assumes nothing.
use Prim.Native.Nat.{ℕ}
use mathlib.Core.Path.{◌≡◌, refl, sym, ◌∙◌, ap}
use mathlib.Core.List.{List}
use Rattle.std.specs.Prelude.{Result, Ok, Err}
use Rattle.rules.specs.Calls.{Answer, Value, Refusal, Left, refusing}
use Rattle.table.specs.declared.refusals.Fault.{Fault}
use Rattle.table.specs.Answers.{number, left}
use Rattle.table.proofs.Faults.{fault_same}

unfoldable said : Result ℕ Fault → Answer
said (Ok n) = Value n
said (Err f) = Refusal (number f) f.place

left_is : (r : Result ℕ Fault) (l : List ℕ) → ((left r l).answer ≡ said r) × ((left r l).buffer ≡ l)
unfolding left said refusing
left_is (Ok n) l = (refl, refl)
left_is (Err f) l = (refl, refl)

said_same : (r q : Result ℕ Fault) → said r ≡ said q → r ≡ q
unfolding said
said_same (Ok n) (Ok m) e = cc
said_same (Ok n) (Err g) e = cc
said_same (Err f) (Ok m) e = cc
said_same (Err f) (Err g) e =
    let n : number f ≡ number g = cc in
    let p : f.place ≡ g.place = cc in
    ap Err (fault_same f g n p)

pub left_same : (r q : Result ℕ Fault) (a b : List ℕ) → left r a ≡ left q b → (r ≡ q) × (a ≡ b)
left_same r q a b e =
    let s = left_is r a in
    let t = left_is q b in (
      said_same r q (sym s.0 ∙ ap (λ (l : Left). l.answer) e ∙ t.0),
      sym s.1 ∙ ap (λ (l : Left). l.buffer) e ∙ t.1,
    )

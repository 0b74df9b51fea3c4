-- What a call of the C interface owes, from what the room's call promises: its value is handed on, and a refusal's place fits 32 bits since
-- every answer of the call does.
-- Assumes nothing.
use Prim.Native.Nat.{ℕ, ◌+◌, ◌*◌, ◌≤◌, ◌<◌}
use mathlib.Core.Path.{◌≡◌, refl, sym, ◌∙◌, ap}
use mathlib.Core.List.{List}
use mathlib.Core.Bool.{Bool, true, false, cond}
use mir.Val.{bool_byte}
use native.Mathlib.Omega.{arith}
use Rattle.std.specs.Prelude.{Result, Ok, Err, IfErr}
use Rattle.rules.specs.Calls.{Answer, Value, Refusal, Left, refusing}
use Rattle.rules.proofs.AnswersFit.{Fits}
use Rattle.table.specs.declared.refusals.Fault.{Fault}
use Rattle.table.specs.Answers.{number, left}
use Rattle.chinebright.specs.Coded.{coded, coded_of, leaves, said}

-- A refusal among answers that are at most m has a place of 32 bits.
pub place_small : (m n p : ℕ) (a : Answer) → m < 4294967296 → Fits m a → Refusal n p ≡ a → p < 4294967296
place_small m n p a h f e = omega (arith, fit)
  where
    fit : p ≤ m
    fit = rw (← e) at f

-- An answer a that a room's call said.
module _ (r : Result ℕ Fault) (a : Answer) (e : said r ≡ a) where
  pub said_coded : (q : ℕ) → q ≡ coded (said r) → q ≡ coded a
  said_coded q h = h ∙ ap coded e

-- Its refusal's place has 32 bits, where the answers are at most m.
pub said_small : (r : Result ℕ Fault) (a : Answer) → said r ≡ a → (m : ℕ) → m < 4294967296 → Fits m a → IfErr r (λ f. f.place < 4294967296)
unfolding said
said_small (Ok n) a e m h f = tt
said_small (Err g) a e m h f = place_small m (number g) g.place a h f e

-- The answer and the buffer that a call leaves.
left_said : (r : Result ℕ Fault) (out : List ℕ) → left r out ≡ record { answer = said r; buffer = out }
unfolding left said refusing
left_said (Ok n) out = refl
left_said (Err f) out = refl

module _ (r : Result ℕ Fault) (out : List ℕ) (l : Left) (e : left r out ≡ l) where
  said_left : record { answer = said r; buffer = out } ≡ l
  said_left = sym (left_said r out) ∙ e

  pub left_coded : (q : ℕ) → q ≡ coded (said r) → leaves q out ≡ coded_of l
  unfolding coded_of
  left_coded q h = rw h (ap coded_of said_left)

  pub left_small : (m : ℕ) → m < 4294967296 → Fits m l.answer → IfErr r (λ f. f.place < 4294967296)
  left_small m h f = said_small r l.answer (ap (λ (x : Left). x.answer) said_left) m h f

-- A value, and a refusal, with the buffer that is left.
module _ (l : Left) (out : List ℕ) where
  pub value_left : (v : ℕ) → record { answer = Value v; buffer = out } ≡ l → leaves v out ≡ coded_of l
  unfolding coded_of coded
  value_left v e = ap coded_of e

  pub refusal_left : (n p r : ℕ) → record { answer = Refusal n p; buffer = out } ≡ l → r ≡ n * 4294967296 + p → leaves r out ≡ coded_of l
  unfolding coded_of coded
  refusal_left n p r e q = rw q (ap coded_of e)

-- Yes is 1, no is 0.
pub yes_or_no : (b : Bool) → bool_byte b ≡ cond b 1 0
yes_or_no true = refl
yes_or_no false = refl

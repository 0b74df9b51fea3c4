-- States lent as bytes. One that has not 128 places is malformed, once the table is read. A refusal leaves the state as it was, so the
-- refused answer alone says what a step leaves.
-- Assumes nothing.
use Prim.Native.Nat.{ℕ, ◌≤◌, ◌<◌}
use mathlib.Core.Path.{◌≡◌, refl, ap}
use mathlib.Core.List.{List, ◌++◌}
use native.Mathlib.Omega.{arith}
use lib.ListN.{length, drop}
use borrow.Author.Tests.{ne_eqb, le-leb, lt-leb}
use Rattle.rules.specs.Table.{Table}
use Rattle.rules.specs.Reading.{Reading, Is, Refused, read}
use Rattle.rules.specs.Machine.{places, fresh, well_formed, granting, step, Step, Stepped, Granted, Denied}
use Rattle.rules.specs.Calls.{Answer, Value, Refusal, reading, refusing, writing, stepped, fresh_call, step_call}
use Rattle.rules.proofs.AnswersFit.{Fits, left_fits}

pub fresh_long : length fresh ≡ places
unfolding fresh
fresh_long = refl

-- A fresh state, where there is no room and where there is.
module _ (out : List ℕ) where
  pub fresh_short : length out < places → record { answer = Refusal 12 places; buffer = out } ≡ fresh_call out
  unfolding fresh_call writing refusing fresh
  fresh_short h = rw (lt-leb places (length out) h)

  pub fresh_written : places ≤ length out → record { answer = Value places; buffer = fresh ++ drop places out } ≡ fresh_call out
  unfolding fresh_call writing refusing fresh
  fresh_written h = rw (le-leb places (length out) h)

module _ (b s : List ℕ) (c : Step) where
  pub wrong_length : (t : Table) → read b ≡ Is t → (length s ≡ places → ⊥) → record { answer = Refusal 14 0; buffer = s } ≡ step_call b s c
  unfolding step_call reading stepped refusing step granting well_formed
  wrong_length t e n = rw (e, ne_eqb (length s) places n)

  pub no_table : (n p : ℕ) → read b ≡ Refused n p → record { answer = Refusal n p; buffer = s } ≡ step_call b s c
  unfolding step_call reading refusing
  no_table n p e = rw e

  -- A refusal leaves the state.
  pub refusal_keeps : (n p : ℕ) → Refusal n p ≡ (step_call b s c).answer → record { answer = Refusal n p; buffer = s } ≡ step_call b s c
  unfolding step_call
  refusal_keeps n p = side (read b)
    where
      denied : (r : Stepped) → Refusal n p ≡ (stepped s r).answer → record { answer = Refusal n p; buffer = s } ≡ stepped s r
      denied (Granted s') e = (unfold stepped in cc)
      denied (Denied m) e = (unfold stepped refusing in ap (λ (a : Answer). record { answer = a; buffer = s }) e)

      side : (r : Reading) → Refusal n p ≡ (reading r (λ m q. refusing m q s) (λ t. stepped s (step t s c))).answer
          → record { answer = Refusal n p; buffer = s } ≡ reading r (λ m q. refusing m q s) (λ t. stepped s (step t s c))
      side (Is t) e = (unfold reading in denied (step t s c) e)
      side (Refused m q) e = (unfold reading refusing in ap (λ (a : Answer). record { answer = a; buffer = s }) e)

  pub step_fits : Fits 1253 (step_call b s c).answer
  unfolding step_call
  step_fits = left_fits b 1253 (omega arith) s _ (λ t ok. side (step t s c))
    where
      side : (r : Stepped) → Fits 1253 (stepped s r).answer
      side (Granted s') = (unfold stepped in omega arith)
      side (Denied m) = (unfold stepped refusing in omega arith)

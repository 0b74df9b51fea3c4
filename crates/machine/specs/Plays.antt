-- Playing steps through the code: what one call of `step` may answer by its contract, and a sequence of calls that are all granted.
-- Assumes nothing.
use Rattle.std.specs.Prelude.{ℕ, ◌^◌, ◌<◌, ◌≡◌, List, [], ◌∷◌, Result, Ok}
use Rattle.rules.specs.Table.{Table}
use Rattle.rules.specs.Machine as rules
use Rattle.rules.specs.Calls.{step_call}
use Rattle.table.specs.declared.refusals.Fault.{Fault}
use Rattle.machine.specs.declared.State.{State}
use Rattle.machine.specs.declared.Step.{Step}
use Rattle.machine.specs.declared.Step.TheVariants.{Start, Open, Close, Finish}
use Rattle.machine.specs.Answers.{step_of, left}

-- `step`, called on the bytes b from the state s for the step c, may answer r.
abbrev pub MayAnswer : List ℕ → State → Step → Result State Fault → Type 0
MayAnswer b s c r = left s r ≡ step_call b s.places (step_of c)

-- The number that a step names; a caller can pass it where it is a `usize`.
unfoldable pub number_of : Step → ℕ
number_of (Start x) = x
number_of (Open i) = i
number_of (Close x) = x
number_of (Finish x) = x

abbrev pub CanPass : Step → Type 0
CanPass c = number_of c < 2 ^ 64

-- The steps cs, played one call after the other on the bytes b from the state s, are all granted and end in the state s'.
pub data Plays (b : List ℕ) : State → List Step → State → Type 0 where
  end : {s : State} → Plays b s [] s
  call : {s s' : State} {c : Step} {cs : List Step} (r : State) → CanPass c → MayAnswer b s c (Ok r) → Plays b r cs s' → Plays b s (c ∷ cs) s'

unfoldable pub steps_of : List Step → List rules.Step
steps_of [] = []
steps_of (c ∷ cs) = step_of c ∷ steps_of cs

-- The four steps of a pair: start task(i), open i, start task(j), open j.
unfoldable pub four_calls : Table → ℕ → ℕ → List Step
four_calls t i j = Start (t.task_of i) ∷ Open i ∷ Start (t.task_of j) ∷ Open j ∷ []

-- What the machine's steps and answers say.
-- Assumes nothing.
use Rattle.std.specs.Prelude.{Result, Ok, Err}
use Rattle.rules.specs.Calls.{Left, Value, refusing}
use Rattle.rules.specs.Machine as rules
use Rattle.table.specs.declared.refusals.Fault.{Fault}
use Rattle.table.specs.Answers.{number}
use Rattle.machine.specs.declared.State.{State}
use Rattle.machine.specs.declared.Step.{Step}
use Rattle.machine.specs.declared.Step.TheVariants.{Start, Open, Close, Finish}

-- The step of the rules that a step names.
unfoldable pub step_of : Step → rules.Step
step_of (Start x) = rules.Start x
step_of (Open i) = rules.Open i
step_of (Close x) = rules.Close x
step_of (Finish x) = rules.Finish x

-- What a step from the state s leaves: its answer, and every place of the next state, or of s itself where the step is refused.
unfoldable pub left : State → Result State Fault → Left
left s (Ok s') = record { answer = Value 0; buffer = s'.places }
left s (Err f) = refusing (number f) f.place s.places

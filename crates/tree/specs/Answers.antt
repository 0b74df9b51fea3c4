-- What the answers of the preemption call say.
-- Assumes nothing.
use Rattle.std.specs.Prelude.{Bool, cond, Result, Ok, Err}
use Rattle.rules.specs.Calls.{Answer, Value, Refusal}
use Rattle.table.specs.declared.refusals.Fault.{Fault}
use Rattle.table.specs.Answers.{number}

unfoldable pub answered : Result Bool Fault → Answer
answered (Ok may) = Value (cond may 1 0)
answered (Err f) = Refusal (number f) f.place

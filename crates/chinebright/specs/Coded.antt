-- A call's answer as one 64-bit number.
-- Assumes nothing.
use Rattle.std.specs.Prelude.{ℕ, ◌+◌, ◌*◌, List, Result, Ok, Err}
use Rattle.rules.specs.Calls.{Answer, Value, Refusal, Left}
use Rattle.table.specs.declared.refusals.Fault.{Fault}
use Rattle.table.specs.Answers.{number}

-- The refusal's number, 0 where there is none, times 2^32, plus the value or the refusal's place.
unfoldable pub coded : Answer → ℕ
coded (Value v) = v
coded (Refusal n p) = n * 4294967296 + p

-- What a room's call answers.
unfoldable pub said : Result ℕ Fault → Answer
said (Ok n) = Value n
said (Err f) = Refusal (number f) f.place

-- What a call with a lent buffer leaves, its answer so written.
pub record Coded : Type 0 where
  pub answer : ℕ
  pub buffer : List ℕ

unfoldable pub coded_of : Left → Coded
coded_of l = record { answer = coded l.answer; buffer = l.buffer }

abbrev pub leaves : ℕ → List ℕ → Coded
leaves r out = record { answer = r; buffer = out }

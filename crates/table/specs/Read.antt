-- What the reader's answer says.
-- Assumes nothing.
use Rattle.std.specs.Prelude.{Result, Ok, Err}
use Rattle.rules.specs.Reading.{Reading, Is, Refused}
use Rattle.table.specs.declared.checked.Checked.{Checked}
use Rattle.table.specs.declared.refusals.Fault.{Fault}
use Rattle.table.specs.Answers.{shown, number}

-- The bytes are this table, or are refused with this number at this place.
unfoldable pub told : Result Checked Fault → Reading
told (Ok t) = Is (shown t.table)
told (Err f) = Refused (number f) f.place

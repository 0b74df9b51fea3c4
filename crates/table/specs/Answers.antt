-- The number of each fault, the table that a struct of four counts and its bytes shows, and what answers say.
-- Assumes nothing.
use Rattle.std.specs.Prelude.{ℕ, ◌≤◌, List, length, Result, Ok, Err}
use Rattle.rules.specs.Table as rules
use Rattle.rules.specs.Reading as reading
use Rattle.rules.specs.Reading.{Counts, table_at, end_at}
use Rattle.rules.specs.Calls.{Left, Value, refusing}
use Rattle.table.specs.declared.Table.{Table}
use Rattle.table.specs.declared.refusals.Refusal.{Refusal}
use Rattle.table.specs.declared.refusals.Refusal.TheVariants as refusals
use Rattle.table.specs.declared.refusals.Fault.{Fault}

-- The numbers of document 01.
unfoldable pub numbered : Refusal → ℕ
numbered refusals.Short = 1
numbered refusals.Form = 2
numbered refusals.Count = 3
numbered refusals.Parent = 4
numbered refusals.Kind = 5
numbered refusals.Provider = 6
numbered refusals.Covered = 7
numbered refusals.Task = 8
numbered refusals.Resource = 9
numbered refusals.LockSet = 10
numbered refusals.Leftover = 11
numbered refusals.Room = 12
numbered refusals.NoThresholds = 13
numbered refusals.State = 14
numbered refusals.Name = 15
numbered refusals.Phase = 16
numbered refusals.Processor = 17
numbered refusals.Held = 18

unfoldable pub number : Fault → ℕ
number f = numbered f.refusal

-- The counts of the struct.
abbrev pub counts : Table → Counts
counts t = record { nodes = t.nodes; locks = t.locks; resources = t.resources; accesses = t.accesses }

-- The table that the struct shows in its bytes.
unfoldable pub shown : Table → rules.Table
shown t = table_at (counts t) t.bytes.now

-- Every record of the table stands in its bytes.
abbrev pub Stands : Table → Type 0
Stands t = end_at (counts t) ≤ length t.bytes.now

-- What the test of a count, a record or a section says.
unfoldable pub checked : Result Unit Fault → reading.Check
checked (Ok u) = reading.Fine
checked (Err f) = reading.Fault (number f) f.place

-- What a call with this answer leaves in a buffer that now holds l: a value, or the refusal's number and place.
unfoldable pub left : Result ℕ Fault → List ℕ → Left
left (Ok n) l = record { answer = Value n; buffer = l }
left (Err f) l = refusing (number f) f.place l

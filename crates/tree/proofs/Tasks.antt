-- A task of the table that a struct shows has a number below the struct's count of nodes.
-- Assumes nothing.
use Prim.Native.Nat.{ℕ, ◌<◌}
use mathlib.Core.Path.{◌≡◌}
use mathlib.Core.Bool.{true}
use Rattle.rules.specs.Table.{is_task}
use Rattle.rules.proofs.Nodes.{task_at}
use Rattle.table.specs.declared.Table.{Table}
use Rattle.table.specs.Answers.{shown}
use Rattle.table.proofs.Shown.{nodes_shown}

pub task_below : (t : Table) (x : ℕ) → is_task (shown t).tree x ≡ true → x < t.nodes
task_below t x e = rw nodes_shown at (task_at (shown t).tree x e).0

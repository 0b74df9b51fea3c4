-- What `thresholds` answers and leaves, once the table has been read.
-- Assumes nothing.
use Rattle.std.specs.Prelude.{ℕ, ◌*◌, cond, List}
use Rattle.rules.specs.Table.{Table}
use Rattle.rules.specs.Priorities.{has_thresholds, thresholds}
use Rattle.rules.specs.Calls.{Left, writing, refusing}

unfoldable pub numbered_call : Table → List ℕ → Left
numbered_call t out = cond (has_thresholds t.tree) (writing (thresholds t.tree) (t.tree.nodes * 2) out) (refusing 13 0 out)

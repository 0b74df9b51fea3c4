-- How many tasks a tree has.
-- Assumes nothing.
use Rattle.std.specs.Prelude.{ℕ, zero, suc, ◌+◌, Bool, cond}
use Rattle.rules.specs.Table.{Tree, is_task}

-- At how many numbers below n p holds.
unfoldable pub count_below : ℕ → (ℕ → Bool) → ℕ
count_below zero p = 0
count_below (suc n) p = count_below n p + cond (p n) 1 0

unfoldable pub task_count : Tree → ℕ
task_count t = count_below t.nodes (is_task t)

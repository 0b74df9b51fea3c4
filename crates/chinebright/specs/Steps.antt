-- The step that a kind and a number name: 0 start, 1 open, 2 close, 3 finish.
-- Assumes nothing.
use Rattle.std.specs.Prelude.{ℕ, cond, eqb}
use Rattle.rules.specs.Machine.{places, Step, Start, Open, Close, Finish}

-- A kind that is none of the four names no task and no access: no task has the number 128.
unfoldable pub step_named : ℕ → ℕ → Step
step_named kind n =
    cond (eqb kind 0) (Start n)
    (cond (eqb kind 1) (Open n)
    (cond (eqb kind 2) (Close n)
    (cond (eqb kind 3) (Finish n)
    (Start places))))

-- Races and illegal locks, and their lists.
-- Assumes nothing.
use Rattle.std.specs.Prelude.{ℕ, Bool, not, ◌&&◌, List, eqb}
use Rattle.rules.specs.Bounded.{Pair, pairs}
use Rattle.rules.specs.Table.{Table, blocking}
use Rattle.rules.specs.Preemption.{may_preempt, is_ancestor}
use Rattle.rules.specs.Locks.{in_set, masked, blocked}

-- The tasks differ, the resources are equal, the task of j may preempt the task of i, no mask in the set of i covers the task of j, and no
-- blocking lock is in both sets.
unfoldable pub race : Table → ℕ → ℕ → Bool
race t i j =
    not (eqb (t.task_of i) (t.task_of j))
    && eqb (t.resource_of i) (t.resource_of j)
    && may_preempt t.tree (t.task_of j) (t.task_of i)
    && not (masked t (t.lock_set i) (t.task_of j))
    && not (blocked t (t.lock_set i) (t.lock_set j))

-- Lock k is in the set of access i, is blocking, and its provider is not an ancestor of the task.
unfoldable pub illegal : Table → ℕ → ℕ → Bool
illegal t i k =
    in_set k (t.lock_set i)
    && eqb (t.lock_kind k) blocking
    && not (is_ancestor t.tree (t.provider k) (t.task_of i))

-- The pairs of accesses that race, by first number and then second.
unfoldable pub races : Table → List Pair
races t = pairs (race t) t.accesses t.accesses

-- The pairs of access and lock that are illegal, by first number and then second.
unfoldable pub illegals : Table → List Pair
illegals t = pairs (illegal t) t.accesses t.locks

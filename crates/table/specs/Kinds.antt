-- The kinds that bytes name. A byte that is no kind's number stands as it is.
-- Assumes nothing.
use Rattle.std.specs.Prelude.{ℕ, ◌≡◌, cond, eqb}
use Rattle.rules.specs.Table.{task, preemptive, non_preemptive, fifo, time_sliced, blocking, mask}
use Rattle.table.specs.declared.kinds.NodeKind.{NodeKind}
use Rattle.table.specs.declared.kinds.NodeKind.TheVariants as nodes
use Rattle.table.specs.declared.kinds.LockKind.{LockKind}
use Rattle.table.specs.declared.kinds.LockKind.TheVariants as locks

unfoldable pub node_kind : ℕ → NodeKind
node_kind n =
    cond (eqb n task) nodes.Task
    (cond (eqb n preemptive) nodes.Preemptive
    (cond (eqb n non_preemptive) nodes.NonPreemptive
    (cond (eqb n fifo) nodes.Fifo
    (cond (eqb n time_sliced) nodes.TimeSliced
    (nodes.Unlisted n)))))

unfoldable pub lock_kind : ℕ → LockKind
lock_kind n = cond (eqb n blocking) locks.Blocking (cond (eqb n mask) locks.Mask (locks.Unlisted n))

abbrev pub IsNodeKind : ℕ → NodeKind → Type 0
IsNodeKind n k = k ≡ node_kind n

abbrev pub IsLockKind : ℕ → LockKind → Type 0
IsLockKind n k = k ≡ lock_kind n

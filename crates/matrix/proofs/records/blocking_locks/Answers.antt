use Rattle.matrix.proofs.Marking.{blocking_none, blocking_next}
use Rattle.matrix.proofs.records.blocking_locks.Goals as goal

pub loop-k-init : goal.loop-k-init
loop-k-init c = blocking_none _

pub loop-k-preserved : goal.loop-k-preserved
loop-k-preserved c = blocking_next c.add_lock-b.ensures c.loop-k.invariant

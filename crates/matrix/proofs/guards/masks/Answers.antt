use Rattle.table.proofs.Bounds.{few_locks_lem}
use Rattle.matrix.proofs.Guarding.{masks_next}
use native.Mathlib.Omega.{arith}
use Rattle.matrix.proofs.guards.masks.Goals as goal

pub loop-k-preserved : goal.loop-k-preserved
loop-k-preserved c = masks_next (omega (arith, few_locks_lem _ c.args.t.now.accepted)) c.guard.ensures c.loop-k.invariant

use Rattle.table.proofs.Bounds.{few_accesses_lem}
use Rattle.matrix.proofs.Filling.{unprovided_next}
use native.Mathlib.Omega.{arith}
use Rattle.matrix.proofs.illegal.unprovided.Goals as goal

pub loop-i-preserved : goal.loop-i-preserved
loop-i-preserved c =
    let a = c.access_at-a.ensures in
    unprovided_next (omega (arith, few_accesses_lem _ c.args.t.now.accepted)) a.0 a.5 c.not_over.ensures c.loop-i.invariant

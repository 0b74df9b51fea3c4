use Rattle.matrix.proofs.Marking.{marked_none, marked_next, one_lock}
use native.Mathlib.Omega.{arith}
use Rattle.table.proofs.Bounds.{few_locks_lem}
use mathlib.Core.Path.{◌≡◌}
use Prim.Native.Nat.{◌+◌}
use Rattle.matrix.proofs.illegal.provided.Goals as goal

pub loop-k-init : goal.loop-k-init
loop-k-init c = marked_none _ _ _ _ c.requires

pub loop-k-preserved : goal.loop-k-preserved
loop-k-preserved c =
    let z : 0 + c.loop-k.k ≡ c.loop-k.k = omega arith in
    marked_next c.loop-k.invariant (rw z c.provider_at-p.ensures.0) (one_lock _ (omega (arith, few_locks_lem _ c.args.t.now.accepted))) (omega arith)

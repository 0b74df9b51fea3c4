use Rattle.matrix.proofs.Guarding.{StillLeaves}
use Prim.Native.Nat.{◌<◌, ◌^◌}
use Rattle.matrix.proofs.guards.unguarded.Given as goal

abbrev pub invariant-loop-k : goal.invariant-loop-k
invariant-loop-k l = (l.k-iterator.left < 2 ^ 32) × (StillLeaves l.g l.w0 l.set l.w l.k-iterator.left)

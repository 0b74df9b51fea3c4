use Rattle.matrix.proofs.Guarding.{StillHolds}
use Prim.Native.Nat.{◌<◌, ◌^◌}
use Rattle.matrix.proofs.guards.hold.Given as goal

abbrev pub invariant-loop-k : goal.invariant-loop-k
invariant-loop-k l = (l.k-iterator.left < 2 ^ 32) × (StillHolds l.accesses l.set l.initial.g l.k-iterator.left l.g)

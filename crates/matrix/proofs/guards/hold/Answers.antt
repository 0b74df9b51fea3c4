-- The accesses are added to the lock that comes, and what is left of the set gives the rest.
use Rattle.rows.proofs.BitList.{taken, none_left}
use Rattle.matrix.proofs.Guarding.{hold_next, hold_end}
use native.Mathlib.Omega.{arith}
use Rattle.matrix.proofs.guards.hold.Goals as goal

pub loop-k-preserved : goal.loop-k-preserved
loop-k-preserved c =
    let o = taken _ _ _ c.loop-k.invariant.0 c.next.new.self.fits c.in-Some.ensures.steps in
    (omega (arith, o.less, c.loop-k.invariant.0), hold_next o c.loop-k.invariant.1)

pub returns : goal.returns
returns c = hold_end (none_left _ c.loop-k.k-iterator.fits c.in-None.ensures.steps.0) c.loop-k.invariant.1

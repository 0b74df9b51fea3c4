-- What is left of the accesses and of the set gives the whole; where no access is left, the rest of the set is of no matter.
use Rattle.rows.proofs.BitList.{taken, none_left}
use Rattle.matrix.proofs.Guarding.{leaves_next, leaves_none, leaves_end}
use native.Mathlib.Omega.{arith}
use Rattle.matrix.proofs.guards.unguarded.Goals as goal

pub returns-then-w-eq0 : goal.returns-then-w-eq0
returns-then-w-eq0 c = leaves_none c.if-w-eq0.true c.loop-k.invariant.1

pub loop-k-preserved : goal.loop-k-preserved
loop-k-preserved c =
    let o = taken _ _ _ c.loop-k.invariant.0 c.next.new.self.fits c.in-Some.ensures.steps in
    (omega (arith, o.less, c.loop-k.invariant.0), leaves_next o c.without-w.ensures c.loop-k.invariant.1)

pub returns : goal.returns
returns c = leaves_end (none_left _ c.loop-k.k-iterator.fits c.in-None.ensures.steps.0) c.loop-k.invariant.1

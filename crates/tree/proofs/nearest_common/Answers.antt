use Rattle.tree.proofs.Turns.{nearest_none, nearest_here, nearest_up}
use native.Mathlib.Omega.{arith}
use mathlib.Core.Path.{◌∙◌}
use Rattle.tree.proofs.nearest_common.Goals as goal

pub returns-then-at-p : goal.returns-then-at-p
returns-then-at-p c = (nearest_none _ _ _ (rw c.parent-p.ensures.0 at c.if-at-p.true) ∙ c.loop-at.invariant.1, omega arith)

pub returns-then-at_or_below : goal.returns-then-at_or_below
returns-then-at_or_below c =
    let e = c.parent-p.ensures.0 in
    (rw e (nearest_here _ _ _ (rw e at c.if-at-p.false) (rw (c.at_or_below.ensures, e) at c.if-at_or_below.true) ∙ c.loop-at.invariant.1), omega arith)

pub loop-at-preserved : goal.loop-at-preserved
loop-at-preserved c =
    let e = c.parent-p.ensures.0 in
    (omega arith, rw e (nearest_up _ _ _ (rw e at c.if-at-p.false) (rw (c.at_or_below.ensures, e) at c.if-at_or_below.false) ∙ c.loop-at.invariant.1))

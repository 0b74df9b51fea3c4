use Rattle.tree.proofs.Turns.{below_here, below_top, below_up}
use native.Mathlib.Omega.{arith}
use mathlib.Core.Path.{◌∙◌}
use Rattle.tree.proofs.at_or_below.Goals as goal

pub returns-then-at-p : goal.returns-then-at-p
returns-then-at-p c =
    below_top _ _ _ c.loop-at-test.true (rw c.parent-p.ensures.0 at c.if-at-p.true) ∙ c.loop-at.invariant.1

pub loop-at-preserved : goal.loop-at-preserved
loop-at-preserved c =
    let e = c.parent-p.ensures.0 in
    (omega arith, rw e (below_up _ _ _ c.loop-at-test.true (rw e at c.if-at-p.false) ∙ c.loop-at.invariant.1))

pub returns : goal.returns
returns c = below_here _ _ _ c.loop-at-test.false ∙ c.loop-at.invariant.1

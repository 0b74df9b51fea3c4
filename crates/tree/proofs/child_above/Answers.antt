use Rattle.tree.proofs.Turns.{child_top, child_here, child_up}
use native.Mathlib.Omega.{arith}
use mathlib.Core.Path.{◌∙◌}
use Rattle.tree.proofs.child_above.Goals as goal
use Rattle.tree.proofs.child_above.Goals.{then-at-q-via-then-at-q, then-at-q-via-else-at-q+then-q-p}

pub returns-then-at-q : goal.returns-then-at-q
returns-then-at-q c =
    let e = c.parent-q.ensures.0 in
    elim c.then-at-q.branch [
      | then-at-q-via-then-at-q w ↦ (child_top _ _ _ (rw e at w.if-at-q.true) ∙ c.loop-at.invariant.1, omega arith)
      | then-at-q-via-else-at-q+then-q-p w ↦ (child_here _ _ _ (rw e at w.if-at-q.false) (rw e at w.if-q-p.true) ∙ c.loop-at.invariant.1, omega arith)
    ]

pub loop-at-preserved : goal.loop-at-preserved
loop-at-preserved c =
    let e = c.parent-q.ensures.0 in
    (omega arith, rw e (child_up _ _ _ (rw e at c.if-at-q.false) (rw e at c.if-q-p.false) ∙ c.loop-at.invariant.1))

use Rattle.matrix.proofs.Waiting.{waiting_none, waiting_same, waiting_next}
use mathlib.Core.Path.{refl}
use Rattle.matrix.proofs.half.Half.holders.Goals.{then-x-set, else-x-set}
use Rattle.matrix.proofs.half.Half.holders.Goals as goal

pub loop-j-init : goal.loop-j-init
loop-j-init c = waiting_none _ _ _ _ c.requires

pub loop-j-preserved : goal.loop-j-preserved
loop-j-preserved c =
    let i = c.loop-j.invariant in
    elim c.if-x-set.branch [
      | then-x-set w ↦ rw (w.g-is, w.set-is, w.waiting-is) (waiting_same c.access.ensures.2 refl w.one-waiting.ensures i w.if-x-set.true)
      | else-x-set w ↦ rw (w.g-is, w.set-is, w.waiting-is) (waiting_next c.access.ensures.2 refl w.one-waiting-else-x-set.ensures i w.hold.ensures)
    ]

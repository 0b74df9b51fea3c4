use Rattle.matrix.proofs.Marking.{marked_none, marked_next}
use native.Mathlib.Omega.{arith}
use Rattle.matrix.proofs.half.Half.mark.Goals as goal

pub loop-j-init : goal.loop-j-init
loop-j-init c = (marked_none _ _ _ _ c.requires.0, marked_none _ _ _ _ c.requires.1)

pub loop-j-preserved : goal.loop-j-preserved
loop-j-preserved c =
    let a = c.access_at-a.ensures in
    let i = c.loop-j.invariant in
    (marked_next i.0 a.0 c.one-bit.ensures (omega arith), marked_next i.1 a.3 c.one-bit.ensures (omega arith))

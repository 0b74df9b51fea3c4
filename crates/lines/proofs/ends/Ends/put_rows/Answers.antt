-- The lines of a row come after those of the rows before it.
use native.Mathlib.Omega.{arith}
use mathlib.Core.Path.{◌≡◌}
use Rattle.lines.proofs.RowLines.{lines_begin, lines_go, lines_room}
use Rattle.lines.proofs.ends.Ends.put_rows.Goals as goal

pub loop-i-init : goal.loop-i-init
loop-i-init c = (lines_begin _ _ _ _, omega arith)

pub put_row-w-requires : goal.put_row-w-requires
put_row-w-requires c =
    let i = c.loop-i.i in
    let f = c.args.from in
    (omega arith, lines_room _ _ _ f i c.args.n (omega arith) c.requires.1 c.loop-i.invariant.0 c.loop-i.invariant.1)

pub loop-i-preserved : goal.loop-i-preserved
loop-i-preserved c =
    let l = c.loop-i in
    (lines_go _ _ _ _ l.i l.invariant.0 c.put_row-w.ensures.0, omega (arith, l.invariant.1, c.put_row-w.ensures.1))

pub returns : goal.returns
returns c = let z : c.loop-i.i ≡ c.args.n = omega arith in rw z at c.loop-i.invariant

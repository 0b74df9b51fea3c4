-- The rows are written one after the other, and two bytes stand for a pair.
use Rattle.rows.specs.Writing.{rows_of}
use Rattle.rows.proofs.RowPairs.{rows_begin, rows_go, rows_room}
use Rattle.rules.proofs.FewPairs.{bytes_length}
use native.Mathlib.Omega.{arith}
use mathlib.Core.Path.{◌≡◌}
use Rattle.rows.proofs.Rows.write.Goals as goal

pub loop-i-init : goal.loop-i-init
loop-i-init c = rows_begin _ _

pub write_row-at-requires : goal.write_row-at-requires
write_row-at-requires c =
    rows_room _ _ c.loop-i.i c.args.n (omega arith) c.requires.1 c.loop-i.invariant

pub loop-i-preserved : goal.loop-i-preserved
loop-i-preserved c = rows_go _ _ c.loop-i.i c.loop-i.invariant c.write_row-at.ensures

pub returns : goal.returns
returns c =
    let r = c.args.self.now in
    let z : c.loop-i.i ≡ c.args.n = omega arith in
    let w = rw z at c.loop-i.invariant in
    (w.bytes, omega (arith, w.place, bytes_length (rows_of r.low r.high c.args.n)))

-- A row adds its lines to those of the rows before it.
use native.Mathlib.Omega.{arith}
use Prim.Native.Nat.{◌+◌}
use mathlib.Core.Path.{◌≡◌}
use Rattle.table.proofs.Bounds.{few_accesses_lem}
use Rattle.lines.proofs.RowLines.{count_begins, count_goes}
use Rattle.lines.proofs.SectionPieces.{one_piece}
use Rattle.lines.proofs.measure.Measured.rows_length.Goals as goal

pub loop-i-init : goal.loop-i-init
loop-i-init c = (count_begins _ _ _ _, omega arith)

pub loop-i-preserved : goal.loop-i-preserved
loop-i-preserved c =
    let l = c.loop-i in
    let z : 0 + l.i ≡ l.i = omega arith in
    (count_goes _ _ _ 0 l.i l.invariant.0 (rw z c.row_length-sum.ensures.0), omega (arith, c.row_length-sum.ensures.1))

pub returns : goal.returns
returns c =
    let l = c.loop-i in
    let z : l.i ≡ c.args.self.now.pairs.t.accesses = omega arith in
    (rw (z, one_piece) at l.invariant.0, omega (arith, z, few_accesses_lem _ c.args.self.now.pairs.accepted))

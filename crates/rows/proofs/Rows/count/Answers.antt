-- Each row adds its own pairs to those before it, at most 128.
use Rattle.rows.proofs.RowPairs.{rows_few, count_begins, count_goes}
use native.Mathlib.Omega.{arith}
use Prim.Native.Nat.{◌+◌}
use Rattle.rows.proofs.Rows.count.Goals as goal

pub loop-row-init : goal.loop-row-init
loop-row-init c = count_begins _ _

pub overflow_add-count : goal.overflow_add-count
overflow_add-count c =
    let g = count_goes c.args.self.now.low c.args.self.now.high c.loop-row.row c.loop-row.invariant c.count_row-count.ensures in
    omega (arith, g, rows_few c.args.self.now.low c.args.self.now.high (c.loop-row.row + 1))

pub loop-row-preserved : goal.loop-row-preserved
loop-row-preserved c = count_goes _ _ c.loop-row.row c.loop-row.invariant c.count_row-count.ensures

-- The first line is counted from its digits, the others from their heads and tails.
use native.Mathlib.Omega.{arith}
use Rattle.table.proofs.Bounds.{few_accesses_lem}
use Rattle.rows.proofs.RowPairs.{rows_few}
use Rattle.lines.proofs.SectionTexts.{section_counted, none_counted}
use Rattle.lines.proofs.Pairs.section_length.Goals as goal

pub digits-requires : goal.digits-requires
digits-requires c =
    omega (arith, rows_few c.args.self.now.rows.now.low c.args.self.now.rows.now.high c.from.result, few_accesses_lem _ c.args.self.now.accepted)

pub returns-then-count-eq0 : goal.returns-then-count-eq0
returns-then-count-eq0 c =
    (none_counted _ _ _ (rw c.from.ensures at c.count-count.ensures) c.digits.ensures.0 c.if-count-eq0.true, omega arith)

pub returns : goal.returns
returns c =
    (section_counted _ _ _ (rw c.from.ensures at c.count-count.ensures) c.digits.ensures.0 c.rows_length.ensures.0, omega (arith, c.rows_length.ensures.1))

pub invariant_of-measured : goal.invariant_of-measured
invariant_of-measured c = record { lengths = c.measure_tails.ensures }

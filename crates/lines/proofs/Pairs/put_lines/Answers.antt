-- The lengths and the tails are those of this table and section.
use Rattle.lines.proofs.Pairs.put_lines.Goals as goal

pub invariant_of-measured : goal.invariant_of-measured
invariant_of-measured c = record { lengths = c.measure_tails.ensures }

pub invariant_of-ends : goal.invariant_of-ends
invariant_of-ends c = record { made = c.put_tails.ensures }

use lib.Bits.{and_le_l}
use Rattle.rows.proofs.Bits.{has_and, has_not}
use Rattle.matrix.proofs.guards.without.Goals as goal

pub returns : goal.returns
returns c = record { less = and_le_l c.args.w _; bits = λ j h. rw (has_and j c.args.w _, has_not 64 j c.args.v h c.ranges.v.fits) }

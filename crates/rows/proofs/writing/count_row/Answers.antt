use Rattle.rows.proofs.Pairs.{row_length}
use Rattle.rows.proofs.writing.count_row.Goals as goal

pub returns : goal.returns
returns c = record { pairs = λ i. row_length c.args.low c.args.high i c.ranges.low.fits c.ranges.high.fits }

use Rattle.rows.proofs.Pairs.{row_of_lem, no_pairs}
use Rattle.rows.proofs.Written.{none}
use Rattle.rows.proofs.writing.write_row.Goals as goal

pub returns : goal.returns
returns c =
    let a = c.args in
    rw (row_of_lem a.low a.high a.i, c.if-low-ne0.false, c.if-high-ne0.false, no_pairs 64 a.i 0, no_pairs 64 a.i 64) none

use Rattle.rows.proofs.Pairs.{row_of_lem}
use Rattle.rows.proofs.Written.{next}
use native.Mathlib.Omega.{arith}
use mathlib.Core.Path.{ap}
use lib.ListN.{length, length-append}
use lib.Seq.{length-sets}
use Rattle.rows.proofs.writing.write_words.Goals as goal

pub write-k-requires : goal.write-k-requires
write-k-requires c = omega (arith, c.requires, rw length-append at (ap length (row_of_lem c.args.low c.args.high c.args.i)))

pub write-requires : goal.write-requires
write-requires c =
    let e = c.write-k.ensures in
    omega (arith, c.requires, e.place, rw length-sets at (ap length e.bytes), rw length-append at (ap length (row_of_lem c.args.low c.args.high c.args.i)))

pub returns : goal.returns
returns c =
    let a = c.args in
    rw (row_of_lem a.low a.high a.i) (next c.write-k.ensures c.write.ensures)

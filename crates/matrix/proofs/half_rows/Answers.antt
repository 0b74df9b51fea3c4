use Rattle.matrix.proofs.Halves.{half_rows_are}
use Rattle.matrix.proofs.half_rows.Goals as goal

pub returns : goal.returns
returns c =
    half_rows_are c.args.half.now.t.table c.args.half.now.t.accepted c.requires c.args.half.now.fits.1 c.mark.ensures.0 c.mark.ensures.1 c.gather_up.ensures c.preemptors.ensures c.holders.ensures c.masks.ensures c.fill.ensures

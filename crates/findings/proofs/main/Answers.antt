-- The bytes that the call answers lie within the buffer.
use Rattle.std.proofs.Common.{sym, refl}
use lib.Seq.{length-take-le}
use Rattle.listing.proofs.Known.{written_length}
use Rattle.findings.proofs.main.Goals as goal

pub slice_bounds-out-end : goal.slice_bounds-out-end
slice_bounds-out-end c = (written_length _ _ _ _ c.in-Ok.ensures _ refl).1

pub slice_bounds-write_all-end : goal.slice_bounds-write_all-end
slice_bounds-write_all-end c = sym (length-take-le _ _ (written_length _ _ _ _ c.in-Ok.ensures _ refl).1)

-- The longest table is all but the last of the bytes, of which there are still 1,254.
use mathlib.Core.Path.{sym}
use native.Mathlib.Omega.{arith}
use lib.Seq.{length-take-le}
use Rattle.edges.proofs.reading.longest.Goals as goal

pub slice_bounds-show-length : goal.slice_bounds-show-length
slice_bounds-show-length g c = sym (length-take-le 1253 _ (omega arith))

use Rattle.table.proofs.SetBits.{no_bit_above, all_below_lem}
use borrow.Author.Tests.{le-leb}
use mathlib.Core.Path.{sym, ◌∙◌}
use Rattle.table.proofs.records.set_within.Goals as goal

pub returns-then-k-ge32 : goal.returns-then-k-ge32
returns-then-k-ge32 c = le-leb _ _ c.if-k-ge32.true ∙ sym (all_below_lem _ 32 _ c.ranges.set.fits c.if-k-ge32.true)

pub returns-else-k-ge32 : goal.returns-else-k-ge32
returns-else-k-ge32 c = no_bit_above c.args.set c.args.k

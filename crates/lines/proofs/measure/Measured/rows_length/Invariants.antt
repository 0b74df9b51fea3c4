-- What is counted are the lines of the rows before i, at most 4,096 bytes a row.
use Prim.Native.Nat.{◌*◌, ◌≤◌}
use mathlib.Core.Path.{◌≡◌}
use lib.ListN.{length}
use Rattle.rules.specs.Listing.{lines}
use Rattle.table.specs.Answers.{shown}
use Rattle.lines.specs.Lines.{pair_line, rows_from}
use Rattle.lines.proofs.measure.Measured.rows_length.Given as goal

abbrev pub invariant-loop-i : goal.invariant-loop-i
invariant-loop-i l = (l.sum ≡ length (lines (pair_line l.self.pairs.which (shown l.self.pairs.t)) (rows_from l.self.pairs.rows.now.low l.self.pairs.rows.now.high 0 l.i))) × (l.sum ≤ 4096 * l.i)

-- What is counted are the pairs of the rows before this one.
use Rattle.rows.specs.Writing.{rows_of}
use mathlib.Core.Path.{◌≡◌}
use lib.ListN.{length}
use Rattle.rows.proofs.Rows.count.Given as goal

abbrev pub invariant-loop-row : goal.invariant-loop-row
invariant-loop-row l = l.count ≡ length (rows_of l.self.low l.self.high l.row)

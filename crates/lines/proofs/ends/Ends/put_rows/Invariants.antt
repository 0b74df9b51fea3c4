-- What is written are the lines of the i rows from the first on, at most 4,096 bytes a row; there is room for all n rows, so also for the next.
use Prim.Native.Nat.{◌+◌, ◌*◌, ◌≤◌}
use Rattle.rules.specs.Listing.{lines}
use Rattle.table.specs.Answers.{shown}
use Rattle.rows.specs.Writing.{Wrote}
use Rattle.lines.specs.Lines.{pair_line, rows_from}
use Rattle.lines.proofs.ends.Ends.put_rows.Given as goal

abbrev pub invariant-loop-i : goal.invariant-loop-i
invariant-loop-i l = Wrote l.initial.out l.k (lines (pair_line l.self.measured.pairs.which (shown l.self.measured.pairs.t)) (rows_from l.self.measured.pairs.rows.now.low l.self.measured.pairs.rows.now.high l.from l.i)) l.out l.w × (l.w ≤ l.k + 4096 * l.i)

-- What is written are the pairs of the rows before i; there is room for all n rows, so also for the next.
use Rattle.rows.specs.Writing.{Wrote, rows_of}
use Rattle.rules.specs.Bounded.{bytes_of}
use Rattle.rows.proofs.Rows.write.Given as goal

abbrev pub invariant-loop-i : goal.invariant-loop-i
invariant-loop-i l = Wrote l.initial.out 0 (bytes_of (rows_of l.self.low l.self.high l.i)) l.out l.at

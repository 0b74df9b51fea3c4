-- The tails before j stand at the ends of their eight bytes; the next is written past them.
use Rattle.table.specs.Answers.{shown}
use Rattle.lines.specs.Lines.{Tails}
use Rattle.lines.proofs.measure.Measured.put_tails.Given as goal

abbrev pub invariant-loop-j : goal.invariant-loop-j
invariant-loop-j l = Tails l.self.pairs.which (shown l.self.pairs.t) l.j l.self.lens.now l.tails

use Rattle.matrix.specs.Words.{Unprovided}
use Rattle.table.specs.Answers.{shown}
use Rattle.matrix.proofs.illegal.unprovided.Given as goal

abbrev pub invariant-loop-i : goal.invariant-loop-i
invariant-loop-i l = Unprovided (shown l.t.table) l.b l.over l.i l.initial.rows l.rows

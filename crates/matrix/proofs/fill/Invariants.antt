use Rattle.matrix.specs.Words.{Filled}
use Rattle.table.specs.Answers.{shown}
use Rattle.matrix.proofs.fill.Given as goal

abbrev pub invariant-loop-i : goal.invariant-loop-i
invariant-loop-i l = Filled (shown l.t.table) l.same l.pre l.g l.i l.initial.rows l.rows

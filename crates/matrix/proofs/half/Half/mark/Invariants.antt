use Rattle.matrix.specs.Words.{Marked}
use Rattle.table.specs.Answers.{shown}
use Rattle.matrix.proofs.half.Half.mark.Given as goal

abbrev pub invariant-loop-j : goal.invariant-loop-j
invariant-loop-j l = Marked 128 (shown l.self.t.table).task_of l.self.base l.j l.tasks × Marked 64 (shown l.self.t.table).resource_of l.self.base l.j l.same

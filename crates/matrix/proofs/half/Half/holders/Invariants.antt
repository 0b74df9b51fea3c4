use Rattle.matrix.proofs.Waiting.{Waiting}
use Rattle.table.specs.Answers.{shown}
use Rattle.matrix.proofs.half.Half.holders.Given as goal

abbrev pub invariant-loop-j : goal.invariant-loop-j
invariant-loop-j l = Waiting (shown l.self.t.table).lock_set l.self.base l.j l.b l.set l.waiting l.g

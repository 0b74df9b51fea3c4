use Rattle.matrix.specs.Words.{Blocking}
use Rattle.table.specs.Answers.{shown}
use Rattle.matrix.proofs.records.blocking_locks.Given as goal

abbrev pub invariant-loop-k : goal.invariant-loop-k
invariant-loop-k l = Blocking (shown l.t.table) l.k l.b

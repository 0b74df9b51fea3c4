use Rattle.matrix.specs.Words.{Marked}
use Rattle.table.specs.Answers.{shown}
use Rattle.matrix.proofs.illegal.provided.Given as goal

abbrev pub invariant-loop-k : goal.invariant-loop-k
invariant-loop-k l = Marked 128 (shown l.t.table).provider 0 l.k l.m

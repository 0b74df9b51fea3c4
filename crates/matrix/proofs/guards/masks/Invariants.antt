use Rattle.matrix.specs.Words.{Masks}
use Rattle.table.specs.Answers.{shown}
use Rattle.matrix.proofs.guards.masks.Given as goal

abbrev pub invariant-loop-k : goal.invariant-loop-k
invariant-loop-k l = Masks (shown l.t.table) l.k l.sub l.initial.g l.g

use Rattle.matrix.proofs.Gathering.{Climbed}
use Rattle.table.specs.Answers.{shown}
use Rattle.matrix.proofs.nodes.gather_up.Given as goal

abbrev pub invariant-loop-c : goal.invariant-loop-c
invariant-loop-c l = Climbed (shown l.t.table).tree l.c l.initial.m l.m

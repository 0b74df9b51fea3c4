use Rattle.matrix.proofs.Inheriting.{InheritedBelow}
use Rattle.table.specs.Answers.{shown}
use Rattle.matrix.proofs.illegal.inherit.Given as goal

abbrev pub invariant-loop-c : goal.invariant-loop-c
invariant-loop-c l = InheritedBelow (shown l.t.table).tree l.c l.initial.m l.m

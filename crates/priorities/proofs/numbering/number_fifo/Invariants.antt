-- The invariant is `Fifo`: the children of p below j have been given c, and `moved` says whether there was one.
use mathlib.Core.Path.{◌≡◌}
use mir.Val.{bool_byte}
use Rattle.table.specs.Answers.{shown}
use Rattle.priorities.proofs.ChildLists.{once}
use Rattle.priorities.proofs.Visits.{Fifo}
use Rattle.priorities.proofs.numbering.number_fifo.Given as goal

abbrev pub invariant-loop-j : goal.invariant-loop-j
invariant-loop-j l = (bool_byte l.moved ≡ once (shown l.t).tree l.p l.j) × Fifo (shown l.t).tree l.p l.initial.out l.c l.j l.out l.c

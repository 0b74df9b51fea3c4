-- The invariant is `KindTwo`: the children of p below j have been given their numbers. Its laws are the turns of the loop.
use Rattle.table.specs.Answers.{shown}
use Rattle.priorities.proofs.Visits.{KindTwo}
use Rattle.priorities.proofs.numbering.number_non_preemptive.Given as goal

abbrev pub invariant-loop-j : goal.invariant-loop-j
invariant-loop-j l = KindTwo (shown l.t).tree l.p l.initial.out l.c l.j l.out l.next

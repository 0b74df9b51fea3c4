-- Numbering a child list calls numbering a node, whose number is greater: twice the nodes that remain falls, and one less for the list.
-- The list's invariant is `KindOne`: the children of p below j have been numbered, each with all below it.
use Prim.Native.Nat.{◌*◌, ◌-◌}
use Rattle.table.specs.Answers.{shown}
use Rattle.priorities.proofs.Visits.{KindOne}
use Rattle.priorities.proofs.numbering.+walk.Given as goal

abbrev pub decreases-number_children : goal.decreases-number_children
decreases-number_children l = 2 * (l.t.now.nodes - l.p) - 1

abbrev pub decreases-number_node : goal.decreases-number_node
decreases-number_node l = 2 * (l.t.now.nodes - l.n)

abbrev pub invariant-number_children-loop-j : goal.invariant-number_children-loop-j
invariant-number_children-loop-j l = KindOne (shown l.t).tree l.p l.initial.out l.c l.j l.out l.next

use mathlib.Core.Path.{◌≡◌, sym, ◌∙◌}
use native.Mathlib.Omega.{arith}
use borrow.Author.Tests.{eqb-true, eqb-false}
use Rattle.table.proofs.KindLaws.{task_is, task_not, preemptive_is, preemptive_not, non_preemptive_is, non_preemptive_not}
use Rattle.table.specs.Answers.{shown}
use Rattle.table.proofs.Shown.{nodes_shown}
use Rattle.priorities.proofs.Numbers.{task_few, kind_fifo}
use Rattle.priorities.proofs.Visits.{one_none, one_ready, one_child, one_other, one_end, task_visited}
use Rattle.priorities.proofs.numbering.+walk.Goals.{number_children-then-is_child, number_children-else-is_child}
use Rattle.priorities.proofs.numbering.+walk.Goals as goal

pub number_children-loop-j-init : goal.number_children-loop-j-init
number_children-loop-j-init t c =
    let r = c.requires.ready in
    one_none _ _ _ _ r c.requires.of_kind

pub number_children-number_node-next-requires : goal.number_children-number_node-next-requires
number_children-number_node-next-requires t c =
    let i = c.loop-j.invariant in
    let e = sym c.is_child.ensures ∙ c.if-is_child.true in
    (omega (arith, c.decreases), one_ready _ _ _ _ c.requires.ready c.requires.of_kind _ _ _ i e)

pub number_children-loop-j-preserved : goal.number_children-loop-j-preserved
number_children-loop-j-preserved t c =
    let i = c.loop-j.invariant in
    elim c.if-is_child.branch [
      | number_children-then-is_child w ↦ rw (w.out-is, w.next-is)
          (one_child _ _ _ _ c.requires.ready c.requires.of_kind _ _ _ i _ _ (sym c.is_child.ensures ∙ w.if-is_child.true) w.number_node-next.auto.out w.number_node-next.ensures)
      | number_children-else-is_child w ↦ rw (w.out-is, w.next-is) (one_other _ _ _ _ c.requires.ready c.requires.of_kind _ _ _ i (sym c.is_child.ensures ∙ w.if-is_child.false))
    ]

pub number_children-returns : goal.number_children-returns
number_children-returns t c =
    let l = c.loop-j in
    let n = nodes_shown c.args.t.now in
    let z : l.j ≡ (shown c.args.t.now).tree.nodes = omega (arith, c.requires.ready.known) in
    one_end _ _ _ _ c.requires.ready c.requires.of_kind _ _ (rw z at l.invariant)

pub number_node-give-requires : goal.number_node-give-requires
number_node-give-requires t c =
    let r = c.requires in
    omega (arith, task_few _ _ _ _ r (eqb-true _ _ (task_is _ c.in-Task.ensures)), r.known, r.room, r.rooted.few)

pub number_node-overflow_add-result : goal.number_node-overflow_add-result
number_node-overflow_add-result t c = omega (arith, task_few _ _ _ _ c.requires (eqb-true _ _ (task_is _ c.in-Task.ensures)))

pub number_node-returns-in-Task : goal.number_node-returns-in-Task
number_node-returns-in-Task t c =
    rw c.give.ensures (task_visited _ _ _ _ c.requires (eqb-true _ _ (task_is _ c.in-Task.ensures)))

pub number_node-number_children-requires : goal.number_node-number_children-requires
number_node-number_children-requires t c =
    let n = nodes_shown c.args.t.now in
    (omega (arith, c.decreases, c.requires.known), (c.requires, eqb-true _ _ (preemptive_is _ c.in-Preemptive.ensures)))

pub number_node-number_fifo-requires-clause-of_kind : goal.number_node-number_fifo-requires-clause-of_kind
number_node-number_fifo-requires-clause-of_kind t c =
    let k = c.kind.ensures in
    let d = c.in_default in
    kind_fifo _ _ _ _ c.requires (eqb-false _ _ (task_not _ _ k d.not-Task)) (eqb-false _ _ (preemptive_not _ _ k d.not-Preemptive))
    (eqb-false _ _ (non_preemptive_not _ _ k d.not-NonPreemptive))

pub number_node-number_non_preemptive-requires-clause-of_kind : goal.number_node-number_non_preemptive-requires-clause-of_kind
number_node-number_non_preemptive-requires-clause-of_kind t c = eqb-true _ _ (non_preemptive_is _ c.in-NonPreemptive.ensures)

use mathlib.Core.Path.{◌≡◌, sym, ◌∙◌}
use native.Mathlib.Omega.{arith}
use Rattle.table.specs.Answers.{shown}
use Rattle.table.proofs.Shown.{nodes_shown}
use Rattle.priorities.proofs.Visits.{two_none, two_few, two_child, two_other, two_end}
use Rattle.priorities.proofs.numbering.number_non_preemptive.Goals.{then-is_child, else-is_child}
use Rattle.priorities.proofs.numbering.number_non_preemptive.Goals as goal

pub loop-j-init : goal.loop-j-init
loop-j-init c =
    two_none _ _ _ _ c.requires.ready c.requires.of_kind

pub give-requires : goal.give-requires
give-requires c =
    let n = nodes_shown c.args.t.now in
    let i = c.loop-j.invariant in
    let r = c.requires.ready in
    let e = sym c.is_child.ensures ∙ c.if-is_child.true in
    omega (arith, two_few _ _ _ _ r c.requires.of_kind _ _ _ i e, i.size, r.room, r.rooted.few)

pub overflow_add-next : goal.overflow_add-next
overflow_add-next c =
    let i = c.loop-j.invariant in
    omega (arith, two_few _ _ _ _ c.requires.ready c.requires.of_kind _ _ _ i (sym c.is_child.ensures ∙ c.if-is_child.true))

pub loop-j-preserved : goal.loop-j-preserved
loop-j-preserved c =
    let i = c.loop-j.invariant in
    elim c.if-is_child.branch [
      | then-is_child w ↦ rw (w.out-is, w.next-is, w.give.ensures) (two_child _ _ _ _ c.requires.ready c.requires.of_kind _ _ _ i (sym c.is_child.ensures ∙ w.if-is_child.true))
      | else-is_child w ↦ rw (w.out-is, w.next-is) (two_other _ _ _ _ c.requires.ready c.requires.of_kind _ _ _ i (sym c.is_child.ensures ∙ w.if-is_child.false))
    ]

pub returns : goal.returns
returns c =
    let l = c.loop-j in
    let n = nodes_shown c.args.t.now in
    let z : l.j ≡ (shown c.args.t.now).tree.nodes = omega (arith, c.requires.ready.known) in
    two_end _ _ _ _ c.requires.ready c.requires.of_kind _ _ (rw z at l.invariant)

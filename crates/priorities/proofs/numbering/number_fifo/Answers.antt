use mathlib.Core.Path.{◌≡◌, sym, ◌∙◌, ap}
use mir.Val.{bool_byte}
use native.Mathlib.Omega.{arith}
use Rattle.table.specs.Answers.{shown}
use Rattle.table.proofs.Shown.{nodes_shown}
use Rattle.priorities.proofs.ChildLists.{once, once_none, once_child, once_other}
use Rattle.priorities.proofs.Visits.{fifo_none, fifo_few, fifo_fits, fifo_child, fifo_other, fifo_end}
use Rattle.priorities.proofs.numbering.number_fifo.Goals.{then-is_child, else-is_child}
use Rattle.priorities.proofs.numbering.number_fifo.Goals as goal

pub loop-j-init : goal.loop-j-init
loop-j-init c = (
  sym (once_none _ _ c.requires.ready.rooted),
  fifo_none _ _ _ _ c.requires.ready c.requires.of_kind,
)

pub give-requires : goal.give-requires
give-requires c =
    let n = nodes_shown c.args.t.now in
    let i = c.loop-j.invariant in
    let r = c.requires.ready in
    let e = sym c.is_child.ensures ∙ c.if-is_child.true in
    omega (arith, fifo_few _ _ _ _ r c.requires.of_kind _ e, i.1.size, r.room, r.rooted.few)

pub loop-j-preserved : goal.loop-j-preserved
loop-j-preserved c =
    let i = c.loop-j.invariant in
    elim c.if-is_child.branch [
      | then-is_child w ↦ (
          let e = sym c.is_child.ensures ∙ w.if-is_child.true in (
            ap bool_byte w.moved-is ∙ sym (once_child _ _ _ e),
            rw (w.out-is, w.give.ensures) (fifo_child _ _ _ _ c.requires.ready c.requires.of_kind _ _ i.1 e),
          )
          )
      | else-is_child w ↦ (
          let e = sym c.is_child.ensures ∙ w.if-is_child.false in (
            ap bool_byte w.moved-is ∙ i.0 ∙ sym (once_other _ _ _ e),
            rw w.out-is (fifo_other _ _ _ _ c.requires.ready c.requires.of_kind _ _ i.1 e),
          )
          )
    ]

pub overflow_add-result : goal.overflow_add-result
overflow_add-result c =
    let i = c.loop-j.invariant in
    omega (arith, i.0, fifo_fits _ _ _ _ c.requires.ready c.requires.of_kind c.loop-j.j 18446744073709551616 (omega (arith, c.ranges.c)) (omega arith))

pub returns : goal.returns
returns c =
    let l = c.loop-j in
    let n = nodes_shown c.args.t.now in
    let z : l.j ≡ (shown c.args.t.now).tree.nodes = omega (arith, c.requires.ready.known) in
    fifo_end _ _ _ _ c.requires.ready c.requires.of_kind _ _ (c.from.ensures ∙ l.invariant.0 ∙ ap (once _ _) z) (rw z at l.invariant.1)

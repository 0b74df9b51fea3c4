use Rattle.matrix.proofs.Passing.{pre_first, seen_first, pre_next, seen_next, pre_all}
use lib.ListN.{length-set}
use Rattle.table.proofs.Shown.{nodes_shown}
use native.Mathlib.Omega.{arith}
use mathlib.Core.Path.{refl}
use Rattle.matrix.proofs.nodes.preemptors.Goals as goal

pub loop-c-init : goal.loop-c-init
loop-c-init c = let ok = c.args.t.now.accepted.tree in (refl, pre_first _ ok _ _ c.requires, seen_first _ ok _)

pub loop-c-preserved : goal.loop-c-preserved
loop-c-preserved c =
    let ok = c.args.t.now.accepted.tree in
    let e = c.parent_of-p.ensures.0 in
    let i = c.loop-c.invariant in
    let n = nodes_shown c.args.t.now.table in (
      rw length-set i.0,
      pre_next _ ok _ (omega arith) (omega (arith, n)) e refl (omega arith) (c.step_down.ensures _ c.node-kind.ensures.1) i.1 i.2,
      seen_next _ ok _ (omega arith) (omega (arith, n)) e (omega arith) i.2,
    )

pub returns : goal.returns
returns c = pre_all _ c.args.t.now.accepted.tree _ (omega (arith, nodes_shown c.args.t.now.table)) c.loop-c.invariant.1

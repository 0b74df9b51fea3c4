use Rattle.matrix.proofs.Inheriting.{inherited_root, inherited_next, inherited_all}
use Rattle.table.proofs.Shown.{nodes_shown}
use native.Mathlib.Omega.{arith}
use Rattle.matrix.proofs.illegal.inherit.Goals as goal

pub loop-c-init : goal.loop-c-init
loop-c-init c = inherited_root _ c.args.t.now.accepted.tree

pub loop-c-preserved : goal.loop-c-preserved
loop-c-preserved c =
    inherited_next _ c.args.t.now.accepted.tree c.loop-c.invariant (omega arith) (omega (arith, nodes_shown c.args.t.now.table)) c.parent_of-p.ensures.0 (omega arith)

pub returns : goal.returns
returns c = inherited_all _ c.args.t.now.accepted.tree (omega (arith, nodes_shown c.args.t.now.table)) c.loop-c.invariant

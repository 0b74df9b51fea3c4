use Rattle.matrix.proofs.Gathering.{climbed_none, climbed_next, climbed_all}
use Rattle.table.proofs.Shown.{nodes_shown}
use native.Mathlib.Omega.{arith}
use mathlib.Core.Path.{sym, ◌∙◌}
use Rattle.matrix.proofs.nodes.gather_up.Goals as goal

pub loop-c-init : goal.loop-c-init
loop-c-init c = climbed_none _ c.args.t.now.accepted.tree _ _ (c.from-c.ensures ∙ sym (nodes_shown _))

pub loop-c-preserved : goal.loop-c-preserved
loop-c-preserved c =
    climbed_next _ c.args.t.now.accepted.tree c.loop-c.invariant (omega arith) (omega arith) (omega (arith, nodes_shown c.args.t.now.table)) c.parent_of-p.ensures.0 (omega arith)

pub returns : goal.returns
returns c = climbed_all _ c.args.t.now.accepted.tree c.loop-c-test.false c.loop-c.invariant

use Rattle.std.proofs.Common.{rules, tests, refl, sym, ◌∙◌}
use Rattle.table.specs.Answers.{shown}
use Rattle.table.proofs.Shown.{nodes_shown}
use Rattle.priorities.specs.Numbering.{may_have}
use Rattle.priorities.proofs.EachNode.{all_pass, each_has}
use Rattle.priorities.proofs.has_thresholds.Goals as goal

pub returns : goal.returns
returns c =
    let t = c.args.t.now in
    all_pass (may_have (shown t).tree) _ _ _ _ c.all.result c.all.ensures.ran refl (c.from.ensures ∙ sym (nodes_shown t))
    (λ x b q k. search (rules, tests))
    ∙ each_has (shown t).tree

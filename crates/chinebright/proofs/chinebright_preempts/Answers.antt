use native.Mathlib.Omega.{arith}
use mathlib.Core.Path.{◌∙◌, ap}
use Rattle.rules.proofs.AnswersFit.{preempts_fits}
use Rattle.tree.specs.Answers.{answered}
use Rattle.chinebright.specs.Coded.{coded}
use Rattle.chinebright.proofs.Codes.{place_small, yes_or_no}
use Rattle.chinebright.proofs.chinebright_preempts.Goals as goal

pub refused-requires : goal.refused-requires
unfolding answered
refused-requires c =
    let a = c.args in
    place_small 1253 _ _ _ (omega arith) (preempts_fits a.table.now a.t a.u) c.in-Err.ensures

pub returns-in-Ok : goal.returns-in-Ok
unfolding answered coded
returns-in-Ok c = c.from.ensures ∙ yes_or_no c.in-Ok.may ∙ ap coded c.in-Ok.ensures

pub returns-in-Err : goal.returns-in-Err
unfolding answered coded
returns-in-Err c = c.refused.ensures ∙ ap coded c.in-Err.ensures

-- Blanking and the walk from the root leave the defined bytes; each refusal comes before anything is written.
use mathlib.Core.Path.{◌≡◌, refl, sym, ◌∙◌}
use native.Mathlib.Omega.{arith}
use mathlib.Core.Bool.{true}
use Rattle.rules.specs.Priorities.{has_thresholds}
use Rattle.table.specs.Answers.{shown, number, numbered}
use Rattle.table.proofs.Shown.{nodes_shown}
use Rattle.priorities.proofs.WholeCall.{call_none, call_short, call_done, root_ready}
use Rattle.priorities.proofs.number.Goals as goal

pub returns-then-not-has : goal.returns-then-not-has
unfolding number numbered
returns-then-not-has c =
    rw c.at.ensures (call_none _ _ (sym c.has_thresholds-has.ensures ∙ c.if-not-has.true) _ refl refl)

pub returns-then-not-fits : goal.returns-then-not-fits
unfolding number numbered
returns-then-not-fits c =
    let n = nodes_shown c.args.t.now.table in
    let has : has_thresholds (shown c.args.t.now.table).tree ≡ true = cc in
    rw c.at-then-not-fits.ensures (call_short _ _ _ (omega arith) has c.if-not-fits.true _ refl refl)

pub blank-requires : goal.blank-requires
blank-requires c =
    let n = nodes_shown c.args.t.now.table in
    omega (arith, c.args.t.now.accepted.tree.few, c.if-not-fits.false)

pub number_node-requires : goal.number_node-requires
number_node-requires c =
    let n : c.from-count.result ≡ (shown c.args.t.now.table).tree.nodes = c.from-count.ensures ∙ sym (nodes_shown _) in
    root_ready _ (shown c.args.t.now.table) c.args.t.now.accepted.tree (sym c.has_thresholds-has.ensures ∙ c.if-not-has.false) _ (rw n at c.blank.ensures)

pub returns : goal.returns
returns c =
    let n : c.from-count.result ≡ (shown c.args.t.now.table).tree.nodes = c.from-count.ensures ∙ sym (nodes_shown _) in
    call_done _ (shown c.args.t.now.table) c.args.t.now.accepted.tree (sym c.has_thresholds-has.ensures ∙ c.if-not-has.false) _ (rw n at c.blank.ensures)
    _ (omega arith) c.if-not-fits.false _ _ c.number_node.ensures

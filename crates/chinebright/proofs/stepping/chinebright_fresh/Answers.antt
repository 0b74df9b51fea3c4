use Rattle.chinebright.proofs.LentStates.{fresh_short, fresh_written, fresh_long}
use Rattle.chinebright.proofs.Codes.{value_left, refusal_left}
use Rattle.table.specs.Answers.{number, numbered}
use Rattle.rules.specs.Calls.{Value}
use Rattle.rules.specs.Machine.{places}
use lib.ListN.{length, drop}
use lib.Seq.{length-take-le}
use mathlib.Core.List.{List, ◌++◌}
use mathlib.Core.Path.{sym, ◌∙◌, ap}
use Prim.Native.Nat.{ℕ}
use Rattle.chinebright.proofs.stepping.chinebright_fresh.Goals as goal

pub returns-then-state-lt128 : goal.returns-then-state-lt128
unfolding number numbered
returns-then-state-lt128 c =
    let a = c.args in
    refusal_left _ a.state.now 12 128 _ (fresh_short a.state.now c.if-state-lt128.true) (rw c.at.ensures at c.refused.ensures)

pub copy_from_slice-requires : goal.copy_from_slice-requires
copy_from_slice-requires c = length-take-le 128 c.args.state.now c.if-state-lt128.false ∙ sym (ap length c.fresh.ensures ∙ fresh_long)

pub returns : goal.returns
returns c =
    let s = c.args.state.now in
    value_left _ _ 128
    (ap (λ (l : List ℕ). record { answer = Value 128; buffer = l }) (ap (λ (l : List ℕ). l ++ drop places s) (c.copy_from_slice.ensures.after ∙ c.fresh.ensures))
    ∙ fresh_written s c.if-state-lt128.false)

use mathlib.Core.Path.{◌∙◌, ap}
use mathlib.Core.List.{List}
use Prim.Native.Nat.{ℕ}
use native.Mathlib.Omega.{arith}
use Rattle.rules.specs.Calls.{Left, Value, refusing}
use Rattle.machine.specs.Answers.{left}
use Rattle.chinebright.specs.Steps.{step_named}
use Rattle.chinebright.proofs.LentStates.{refusal_keeps, step_fits}
use Rattle.chinebright.proofs.Codes.{place_small, value_left, refusal_left}
use Rattle.chinebright.proofs.stepping.chinebright_step.Goals as goal

pub refused-requires : goal.refused-requires
unfolding left refusing
refused-requires c =
    let a = c.args in
    let e = rw (c.in-Ok.ensures.1.same, c.step_named.ensures) at c.in-Err.ensures in
    place_small 1253 _ _ _ (omega arith) (step_fits a.table.now a.state.now (step_named a.kind a.n)) (ap (λ (x : Left). x.answer) e)

pub returns-in-Err : goal.returns-in-Err
unfolding left refusing
returns-in-Err c =
    let a = c.args in
    let e = rw (c.in-Ok.ensures.1.same, c.step_named.ensures) at c.in-Err.ensures in
    refusal_left _ _ _ _ _ (refusal_keeps a.table.now a.state.now (step_named a.kind a.n) _ _ (ap (λ (x : Left). x.answer) e)) c.refused.ensures

pub returns-in-Ok-step : goal.returns-in-Ok-step
unfolding left
returns-in-Ok-step c =
    let e = rw (c.in-Ok.ensures.1.same, c.step_named.ensures) at c.in-Ok-step.ensures in
    value_left _ _ 0 (ap (λ (x : List ℕ). record { answer = Value 0; buffer = x }) c.copy_from_slice.ensures.after ∙ e)

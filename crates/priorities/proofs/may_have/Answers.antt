use mathlib.Core.Path.{refl, sym}
use mathlib.Core.Bool.{true}
use borrow.Author.Tests.{eqb-true, ne_eqb}
use Rattle.rules.proofs.Bools.{or_left, or_right}
use Rattle.priorities.specs.Numbering.{may_have}
use Rattle.table.proofs.KindLaws.{time_sliced_is, time_sliced_not, task_is, task_not, preemptive_is, preemptive_not}
use Rattle.priorities.proofs.may_have.Goals as goal

pub returns-in-TimeSliced : goal.returns-in-TimeSliced
unfolding may_have
returns-in-TimeSliced c = rw (time_sliced_is _ c.in-TimeSliced.ensures)

pub returns-in-Task : goal.returns-in-Task
unfolding may_have
returns-in-Task c =
    let z = eqb-true _ _ (task_is _ c.in-Task.ensures) in
    rw z (sym (or_left _ _ (or_right _ true refl)))

pub returns-then-n-eq0 : goal.returns-then-n-eq0
unfolding may_have
returns-then-n-eq0 c = rw (time_sliced_not _ _ c.kind.ensures c.in_default.not-TimeSliced, c.if-n-eq0.true)

pub returns-in-Preemptive : goal.returns-in-Preemptive
unfolding may_have
returns-in-Preemptive c =
    rw (
      time_sliced_not _ _ c.kind.ensures c.in_default.not-TimeSliced,
      ne_eqb _ _ c.if-n-eq0.false,
      task_not _ _ c.kind.ensures c.in_default.not-Task,
      ← c.parent.ensures.0,
      preemptive_is _ c.in-Preemptive.ensures,
    )

pub returns-in_default-matches : goal.returns-in_default-matches
unfolding may_have
returns-in_default-matches c =
    rw (
      time_sliced_not _ _ c.kind.ensures c.in_default.not-TimeSliced,
      ne_eqb _ _ c.if-n-eq0.false,
      task_not _ _ c.kind.ensures c.in_default.not-Task,
      ← c.parent.ensures.0,
      preemptive_not _ _ c.kind-else-n-eq0.ensures c.in_default-matches.not-Preemptive,
    )

use Rattle.matrix.specs.Words.{step_down}
use Rattle.table.proofs.KindLaws.{preemptive_is, preemptive_not, time_sliced_is, time_sliced_not}
use mathlib.Core.Path.{sym, ◌∙◌}
use Rattle.rows.proofs.Bits.{has_and, has_or, has_not}
use Rattle.matrix.proofs.nodes.step_down.Goals as goal

pub returns-in-Preemptive : goal.returns-in-Preemptive
unfolding step_down
returns-in-Preemptive c k e = record { bits = λ j h. rw (preemptive_is _ (sym c.in-Preemptive.is ∙ e)) (has_or j _ _) }

pub returns-in-TimeSliced : goal.returns-in-TimeSliced
unfolding step_down
returns-in-TimeSliced c k e =
    let a = c.args in
    let own = sym c.in-TimeSliced.is ∙ e in
    record {
      bits = λ j h.
          rw (preemptive_not _ _ own (λ p. cc), time_sliced_is _ own, has_or j a.over _, has_and j _ _, has_not 64 j a.own h c.ranges.own.fits);
    }

pub returns-in_default : goal.returns-in_default
unfolding step_down
returns-in_default c k e =
    let d = c.in_default in
    record { bits = λ j h. rw (preemptive_not _ _ e d.not-Preemptive, time_sliced_not _ _ e d.not-TimeSliced) }

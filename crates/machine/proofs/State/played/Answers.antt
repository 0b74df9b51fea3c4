-- Each return is the denial of the first test that fails; where all pass, the next value stands at the task's place.
use Rattle.table.specs.Answers.{number, numbered}
use Rattle.machine.specs.Answers.{left}
use mathlib.Core.Path.{sym, ◌∙◌}
use Rattle.machine.proofs.Passed.{passes, fails}
use Rattle.machine.proofs.HeldByOthers.{free_by_union}
use Rattle.machine.proofs.OthersLeave.{kept, yielded}
use Rattle.machine.proofs.TestByTest.{malformed, unnamed, out_of_phase, not_to_take, lock_held, all_pass}
use Rattle.machine.proofs.State.played.Goals as goal

pub returns-then-not-well_formed : goal.returns-then-not-well_formed
unfolding left number numbered
returns-then-not-well_formed c =
    rw c.at.ensures (sym (malformed _ _ _ (fails c.well_formed-2.ensures c.if-not-well_formed.true)))

pub returns-then-not-named : goal.returns-then-not-named
unfolding left number numbered
returns-then-not-named c =
    rw c.at-then-not-named.ensures
    (sym (unnamed _ _ _ (passes c.well_formed-2.ensures c.if-not-well_formed.false) (fails c.named.ensures c.if-not-named.true)))

pub returns-then-not-fits : goal.returns-then-not-fits
unfolding left number numbered
returns-then-not-fits c =
    rw c.at-then-not-fits.ensures
    (sym (
    out_of_phase _ _ _
    (passes c.well_formed-2.ensures c.if-not-well_formed.false)
    (passes c.named.ensures c.if-not-named.false)
    _ c.stepper-x.ensures
    (rw c.from.ensures at (fails c.fits.ensures c.if-not-fits.true))
    ))

pub returns-in_default : goal.returns-in_default
unfolding left number numbered
returns-in_default c =
    rw c.at-in_default.ensures
    (sym (
    not_to_take _ _ _
    (passes c.well_formed-2.ensures c.if-not-well_formed.false)
    (passes c.named.ensures c.if-not-named.false)
    _ c.stepper-x.ensures
    (rw c.from.ensures at (passes c.fits.ensures c.if-not-fits.false))
    (kept _ _ c.in_default.ensures)
    ))

pub returns-then-not-free : goal.returns-then-not-free
unfolding left number numbered
returns-then-not-free c =
    let y = yielded _ _ c.in-Some.ensures in
    rw c.at-then-not-free.ensures
    (sym (
    lock_held _ _ _
    (passes c.well_formed-2.ensures c.if-not-well_formed.false)
    (passes c.named.ensures c.if-not-named.false)
    _ c.stepper-x.ensures
    (rw c.from.ensures at (passes c.fits.ensures c.if-not-fits.false))
    y.0
    (fails (c.free.ensures ∙ free_by_union _ _ _ _ _ c.stepper-x.ensures y.1) c.if-not-free.true)
    ))

pub returns : goal.returns
unfolding left
returns c =
    let y = yielded _ _ c.in-Some.ensures in
    sym (
    all_pass _ _ _
    (passes c.well_formed-2.ensures c.if-not-well_formed.false)
    (passes c.named.ensures c.if-not-named.false)
    _ c.stepper-x.ensures
    (rw c.from.ensures at (passes c.fits.ensures c.if-not-fits.false))
    y.0
    (passes (c.free.ensures ∙ free_by_union _ _ _ _ _ c.stepper-x.ensures y.1) c.if-not-free.false)
    _ (c.byte-after.ensures ∙ c.next.ensures)
    )

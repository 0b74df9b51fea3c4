use Rattle.table.proofs.Results.{goes_out}
use Rattle.table.proofs.SectionLaws.{passes, each_none, each_goes, count_stops, record_stops, all_pass}
use Rattle.rules.specs.Reading.{lock_section}
use native.Mathlib.Omega.{arith}
use mathlib.Core.Path.{◌≡◌}
use Prim.Native.Nat.{◌<◌}
use Rattle.table.proofs.Table.lock_section.Goals as goal

pub returns-in_err-check_count : goal.returns-in_err-check_count
unfolding lock_section
returns-in_err-check_count c =
    rw (goes_out _ _ c.from_residual.ensures.1) (count_stops _ _ _ _ (rw c.locks_at.ensures.0 at c.in_err-check_count.ensures))

pub loop-k-init : goal.loop-k-init
loop-k-init c = each_none _

pub returns-in_err-check_lock : goal.returns-in_err-check_lock
unfolding lock_section
returns-in_err-check_lock c =
    let h : c.loop-k.k < c.args.self.now.locks = omega arith in
    rw (goes_out _ _ c.from_residual-in_err-check_lock.ensures.1)
    (record_stops _ _ _ _ _ _ (rw c.locks_at.ensures.0 at c.in_ok-check_count.ensures) h c.loop-k.invariant c.in_err-check_lock.ensures)

pub loop-k-preserved : goal.loop-k-preserved
loop-k-preserved c = each_goes _ _ c.loop-k.invariant (passes _ _ c.in_ok-check_lock.ensures)

pub returns : goal.returns
unfolding lock_section
returns c =
    let z : c.loop-k.k ≡ c.args.self.now.locks = omega arith in
    all_pass _ _ _ _ _ (rw c.locks_at.ensures.0 at c.in_ok-check_count.ensures) (rw z at c.loop-k.invariant)

use Rattle.table.proofs.Results.{goes_out}
use Rattle.table.proofs.SectionLaws.{passes, each_none, each_goes, count_stops, record_stops, all_pass}
use Rattle.rules.specs.Reading.{access_section}
use native.Mathlib.Omega.{arith}
use mathlib.Core.Path.{◌≡◌}
use Prim.Native.Nat.{◌<◌}
use Rattle.table.proofs.Table.access_section.Goals as goal

pub returns-in_err-check_count : goal.returns-in_err-check_count
unfolding access_section
returns-in_err-check_count c =
    rw (goes_out _ _ c.from_residual.ensures.1) (count_stops _ _ _ _ (rw c.accesses_at.ensures.0 at c.in_err-check_count.ensures))

pub loop-i-init : goal.loop-i-init
loop-i-init c = each_none _

pub returns-in_err-check_access : goal.returns-in_err-check_access
unfolding access_section
returns-in_err-check_access c =
    let h : c.loop-i.i < c.args.self.now.accesses = omega arith in
    rw (goes_out _ _ c.from_residual-in_err-check_access.ensures.1)
    (record_stops _ _ _ _ _ _ (rw c.accesses_at.ensures.0 at c.in_ok-check_count.ensures) h c.loop-i.invariant c.in_err-check_access.ensures)

pub loop-i-preserved : goal.loop-i-preserved
loop-i-preserved c = each_goes _ _ c.loop-i.invariant (passes _ _ c.in_ok-check_access.ensures)

pub returns : goal.returns
unfolding access_section
returns c =
    let z : c.loop-i.i ≡ c.args.self.now.accesses = omega arith in
    all_pass _ _ _ _ _ (rw c.accesses_at.ensures.0 at c.in_ok-check_count.ensures) (rw z at c.loop-i.invariant)

use mathlib.Core.Path.{refl}
use native.Mathlib.Omega.{arith}
use Rattle.table.proofs.Shown.{nodes_shown}
use Rattle.machine.specs.OtherTasks.{held_below}
use Rattle.machine.proofs.AllTested.{all_yet, all_here}
use Rattle.machine.proofs.OthersLeave.{kept, yielded, one_more_holds, one_keeps, all_yield}
use Rattle.machine.proofs.taking.pass.Goals as goal

pub loop-u-init : goal.loop-u-init
unfolding held_below
loop-u-init c = (all_yet _, refl)

pub returns-in_err-locks : goal.returns-in_err-locks
returns-in_err-locks c =
    rw c.from_residual.ensures
    (one_keeps _ _ _ _ (omega (arith, nodes_shown c.args.t.now.table)) (rw c.from-place.ensures at (kept _ _ c.in_err-locks.ensures)))

pub loop-u-preserved : goal.loop-u-preserved
loop-u-preserved c =
    let i = c.loop-u.invariant in
    let y = yielded _ _ (rw c.from-place.ensures at c.in_ok-locks.ensures) in
    (all_here _ _ i.0 y.0, one_more_holds _ _ _ _ _ _ i.1 y.1)

pub returns : goal.returns
returns c =
    let i = c.loop-u.invariant in
    all_yield _ _ _ _ _ (omega (arith, nodes_shown c.args.t.now.table)) i.0 i.1

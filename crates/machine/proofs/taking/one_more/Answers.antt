-- A task that is not inside, or is the one that steps, adds no lock.
use borrow.Author.Tests.{eq-eqb, ne_eqb}
use lib.Bits.{or_zero_r}
use Rattle.rules.specs.Machine.{held}
use Rattle.machine.specs.OtherTasks.{leaves}
use Rattle.machine.specs.Places.{byte_of}
use Rattle.machine.proofs.taking.one_more.Goals as goal

pub returns-then-u-x : goal.returns-then-u-x
unfolding leaves
returns-then-u-x c = rw (eq-eqb _ _ c.if-u-x.true, or_zero_r c.args.locks)

pub returns-in-Idle : goal.returns-in-Idle
unfolding leaves held byte_of
returns-in-Idle c = rw (ne_eqb _ _ c.if-u-x.false, c.in-Idle.is, or_zero_r c.args.locks)

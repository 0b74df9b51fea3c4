use native.Mathlib.Omega.{arith}
use borrow.Author.Tests.{ltb-true}
use Rattle.rules.specs.Machine.{named}
use Rattle.table.proofs.Bounds.{few_locks_lem}
use Rattle.machine.specs.Answers.{step_of}
use Rattle.machine.proofs.Step.free.Goals as goal

pub lock_set-set-requires : goal.lock_set-set-requires
unfolding step_of named
lock_set-set-requires c =
    omega (arith, ltb-true _ _ (rw c.in-Open.is at c.requires), c.args.t.now.accepted.few_accesses)

pub blocked-requires : goal.blocked-requires
blocked-requires c = few_locks_lem _ c.args.t.now.accepted

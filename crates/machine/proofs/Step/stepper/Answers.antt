use native.Mathlib.Omega.{arith}
use borrow.Author.Tests.{ltb-true}
use Rattle.rules.specs.Machine.{named}
use Rattle.machine.specs.Answers.{step_of}
use Rattle.machine.proofs.Step.stepper.Goals as goal

pub task_of-requires : goal.task_of-requires
unfolding step_of named
task_of-requires c =
    omega (arith, ltb-true _ _ (rw c.in-Open.is at c.requires), c.args.t.now.accepted.few_accesses)

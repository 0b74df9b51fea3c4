use Rattle.table.proofs.Results.{goes_out}
use Rattle.table.proofs.Told.{told_fault}
use Rattle.tree.specs.Answers.{answered}
use Rattle.rules.specs.Calls.{preempts_call, reading}
use Rattle.tree.proofs.preempts.Goals as goal

pub returns-in_err-read : goal.returns-in_err-read
unfolding answered preempts_call reading
returns-in_err-read c = rw (goes_out _ _ c.from_residual.ensures.1, told_fault _ _ c.in_err-read.ensures.table)

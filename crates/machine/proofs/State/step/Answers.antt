use Rattle.rules.specs.Calls.{step_call, reading}
use Rattle.table.proofs.Results.{goes_out}
use Rattle.table.proofs.Told.{told_table, told_fault}
use Rattle.machine.specs.Answers.{left}
use Rattle.machine.proofs.State.step.Goals as goal

pub returns-in_err-t : goal.returns-in_err-t
unfolding left step_call reading
returns-in_err-t c =
    rw (goes_out _ _ c.from_residual.ensures.1, told_fault _ _ c.in_err-t.ensures.table)

pub returns : goal.returns
unfolding step_call reading
returns c =
    rw (told_table _ _ c.in_ok-t.ensures.table) c.played.ensures

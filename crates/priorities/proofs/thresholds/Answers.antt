use mathlib.Core.Path.{◌∙◌}
use Rattle.table.proofs.Results.{goes_out}
use Rattle.table.proofs.Told.{told_table, told_fault}
use Rattle.priorities.proofs.WholeCall.{call_refused, call_read}
use Rattle.priorities.proofs.thresholds.Goals as goal

pub returns-in_err-t : goal.returns-in_err-t
returns-in_err-t c = rw (goes_out _ _ c.from_residual.ensures.1) (call_refused _ _ _ (told_fault _ _ c.in_err-t.ensures.table))

pub returns : goal.returns
returns c = c.number.ensures ∙ call_read _ _ _ (told_table _ _ c.in_ok-t.ensures.table)

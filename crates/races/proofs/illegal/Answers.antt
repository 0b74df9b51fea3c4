-- The bytes are read first; then the list is that of the table.
use mathlib.Core.Path.{◌∙◌}
use Rattle.table.proofs.Results.{goes_out}
use Rattle.table.proofs.Told.{told_table, told_fault}
use Rattle.races.proofs.ListAnswers.{illegal_refused, illegal_read}
use Rattle.races.proofs.illegal.Goals as goal

pub returns-in_err-t : goal.returns-in_err-t
returns-in_err-t c = rw (goes_out _ _ c.from_residual.ensures.1) (illegal_refused _ _ _ (told_fault _ _ c.in_err-t.ensures.table))

pub returns : goal.returns
returns c = c.list_illegal.ensures ∙ illegal_read _ _ _ (told_table _ _ c.in_ok-t.ensures.table)

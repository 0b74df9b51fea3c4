-- The bytes are read first; then the text is that of the table, or of the refusal.
use mathlib.Core.Path.{◌∙◌}
use Rattle.table.proofs.Told.{told_table, told_fault}
use Rattle.listing.proofs.Whole.{table_text, refused_text}
use Rattle.listing.proofs.listing.Goals as goal

pub returns-in-Ok : goal.returns-in-Ok
returns-in-Ok c =
    c.list_table.ensures ∙ table_text _ _ _ (told_table _ _ c.in-Ok.ensures.table)

pub returns-in-Err : goal.returns-in-Err
returns-in-Err c =
    c.list_refused.ensures ∙ refused_text _ _ _ _ (told_fault _ _ c.in-Err.ensures.table)

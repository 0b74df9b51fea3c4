-- The rows that were found hold the illegal pairs of the table.
use mathlib.Core.Path.{sym, ◌∙◌}
use Rattle.table.proofs.Shown.{accesses_shown}
use Rattle.races.proofs.ListAnswers.{illegals_found}
use Rattle.races.proofs.list_illegal.Goals as goal

pub returns : goal.returns
returns c =
    rw (illegals_found _ c.args.t.now.accepted c.from.result (c.from.ensures ∙ sym (accesses_shown _)) c.illegal_rows.ensures.0 (c.illegal_rows.ensures.1 ∙ c.empty-rows.ensures.1)) at c.list.ensures

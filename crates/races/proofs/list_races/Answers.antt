-- The rows that were found hold the races of the table.
use mathlib.Core.Path.{sym, ◌∙◌}
use Rattle.table.proofs.Shown.{accesses_shown}
use Rattle.races.proofs.ListAnswers.{races_found}
use Rattle.races.proofs.list_races.Goals as goal

pub returns : goal.returns
returns c =
    rw (races_found _ c.args.t.now.accepted c.from.result (c.from.ensures ∙ sym (accesses_shown _)) c.race_rows.ensures) at c.list.ensures

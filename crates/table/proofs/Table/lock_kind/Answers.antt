use mathlib.Core.Path.{◌∙◌, ap}
use Rattle.rules.specs.Reading.{table_at}
use Rattle.table.specs.Answers.{shown}
use Rattle.table.specs.Kinds.{lock_kind}
use Rattle.table.proofs.Table.lock_kind.Goals as goal

pub returns : goal.returns
unfolding shown table_at
returns c = c.into.ensures ∙ ap lock_kind (rw c.lock_at.ensures.0 at c.byte_at.ensures)

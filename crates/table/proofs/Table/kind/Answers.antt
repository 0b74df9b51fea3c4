use mathlib.Core.Path.{◌∙◌, ap}
use Rattle.rules.specs.Reading.{table_at}
use Rattle.table.specs.Answers.{shown}
use Rattle.table.specs.Kinds.{node_kind}
use Rattle.table.proofs.Table.kind.Goals as goal

pub returns : goal.returns
unfolding shown table_at
returns c = c.into.ensures ∙ ap node_kind c.byte_at.ensures

use Rattle.rules.specs.Reading.{table_at}
use Rattle.table.specs.Answers.{shown}
use Rattle.table.proofs.Table.label.Goals as goal

pub returns : goal.returns
unfolding shown table_at
returns c = rw (← c.resource_at.ensures.0) c.pair_at.ensures

use Rattle.rules.specs.Reading.{table_at}
use Rattle.table.specs.Answers.{shown}
use Rattle.table.proofs.Table.resource_of.Goals as goal

pub returns : goal.returns
unfolding shown table_at
returns c = rw (← c.access_at.ensures.0) c.number_at.ensures

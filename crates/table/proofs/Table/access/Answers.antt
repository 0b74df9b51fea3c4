use native.Mathlib.Omega.{arith}
use Rattle.rules.specs.Reading.{table_at}
use Rattle.table.specs.Answers.{shown}
use Rattle.table.proofs.FourBytes.{four}
use Rattle.table.proofs.Table.access.Goals as goal

pub returns : goal.returns
unfolding shown table_at
returns c =
    rw (← c.access_at-at.ensures.0)
    (c.from.ensures, c.from-2.ensures, four c.args.self.now.bytes.now _ _ _ _ _ (omega arith) (omega arith) (omega arith) c.from_be_bytes.ensures)

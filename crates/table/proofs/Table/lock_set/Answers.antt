use native.Mathlib.Omega.{arith}
use Rattle.rules.specs.Reading.{table_at}
use Rattle.table.specs.Answers.{shown}
use Rattle.table.proofs.FourBytes.{four}
use Rattle.table.proofs.Table.lock_set.Goals as goal

pub returns : goal.returns
unfolding shown table_at
returns c =
    rw (← c.access_at-at.ensures.0)
    (four c.args.self.now.bytes.now _ _ _ _ _ (omega arith) (omega arith) (omega arith)
    (rw (c.byte_at.ensures, c.byte_at-2.ensures, c.byte_at-3.ensures, c.byte_at-4.ensures) at c.from_be_bytes.ensures))

use Rattle.table.specs.Answers.{counts}
use Rattle.rules.specs.Reading.{Fine, each, lock_check}
use mathlib.Core.Path.{◌≡◌}
use Rattle.table.proofs.Table.lock_section.Given as goal

abbrev pub invariant-loop-k : goal.invariant-loop-k
invariant-loop-k l = each l.k (lock_check (counts l.self) l.self.bytes.now) ≡ Fine

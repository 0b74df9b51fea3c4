use Rattle.table.specs.Answers.{counts}
use Rattle.rules.specs.Reading.{Fine, each, access_check}
use mathlib.Core.Path.{◌≡◌}
use Rattle.table.proofs.Table.access_section.Given as goal

abbrev pub invariant-loop-i : goal.invariant-loop-i
invariant-loop-i l = each l.i (access_check (counts l.self) l.self.bytes.now) ≡ Fine

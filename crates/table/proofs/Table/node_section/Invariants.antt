use Rattle.table.specs.Answers.{counts}
use Rattle.rules.specs.Reading.{Fine, each, node_check}
use mathlib.Core.Path.{◌≡◌}
use Rattle.table.proofs.Table.node_section.Given as goal

abbrev pub invariant-loop-n : goal.invariant-loop-n
invariant-loop-n l = each l.n (node_check (counts l.self) l.self.bytes.now) ≡ Fine

-- The lengths of the tails before j are right, and the others are 0.
use mathlib.Core.Path.{◌≡◌}
use lib.ListN.{length}
use Rattle.table.specs.Answers.{shown}
use Rattle.lines.specs.Lines.{Lengths}
use Rattle.lines.proofs.Pairs.measure_tails.Given as goal

abbrev pub invariant-loop-j : goal.invariant-loop-j
invariant-loop-j l = (length l.lens ≡ 128) × Lengths l.self.which (shown l.self.t) l.j l.lens

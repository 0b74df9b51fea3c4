use Rattle.matrix.proofs.Passing.{PreBelow, SeenBelow}
use mathlib.Core.Path.{◌≡◌}
use lib.ListN.{length}
use Rattle.table.specs.Answers.{shown}
use Rattle.matrix.proofs.nodes.preemptors.Given as goal

abbrev pub invariant-loop-c : goal.invariant-loop-c
invariant-loop-c l = (length l.seen ≡ 128) × PreBelow (shown l.t.table).tree l.sub l.c l.pre × SeenBelow (shown l.t.table).tree l.sub l.c l.seen

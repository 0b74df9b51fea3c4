-- The climb from the node reached is the whole climb.
use Rattle.rules.specs.Preemption.{at_or_below}
use Rattle.table.specs.Answers.{shown}
use mathlib.Core.Path.{◌≡◌}
use Prim.Native.Nat.{◌≤◌}
use Rattle.tree.proofs.at_or_below.Given as goal

abbrev pub invariant-loop-at : goal.invariant-loop-at
invariant-loop-at l = (l.at ≤ l.n) × (at_or_below (shown l.t).tree l.at l.a ≡ at_or_below (shown l.t).tree l.n l.a)

abbrev pub decreases-loop-at : goal.decreases-loop-at
decreases-loop-at l = l.at

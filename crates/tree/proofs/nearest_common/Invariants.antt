-- What is nearest above the node reached is nearest above u.
use Rattle.rules.specs.Preemption.{nearest_common}
use Rattle.table.specs.Answers.{shown}
use mathlib.Core.Path.{◌≡◌}
use Prim.Native.Nat.{◌≤◌}
use Rattle.tree.proofs.nearest_common.Given as goal

abbrev pub invariant-loop-at : goal.invariant-loop-at
invariant-loop-at l = (l.at ≤ l.u) × (nearest_common (shown l.t).tree l.x l.at ≡ nearest_common (shown l.t).tree l.x l.u)

abbrev pub decreases-loop-at : goal.decreases-loop-at
decreases-loop-at l = l.at

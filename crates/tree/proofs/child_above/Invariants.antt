-- The child found from the node reached is the one found from n.
use Rattle.rules.specs.Preemption.{child_above}
use Rattle.table.specs.Answers.{shown}
use mathlib.Core.Path.{◌≡◌}
use Prim.Native.Nat.{◌≤◌}
use Rattle.tree.proofs.child_above.Given as goal

abbrev pub invariant-loop-at : goal.invariant-loop-at
invariant-loop-at l = (l.at ≤ l.n) × (child_above (shown l.t).tree l.p l.at ≡ child_above (shown l.t).tree l.p l.n)

abbrev pub decreases-loop-at : goal.decreases-loop-at
decreases-loop-at l = l.at

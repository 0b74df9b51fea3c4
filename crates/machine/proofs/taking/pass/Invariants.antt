-- All before u yield, and together hold these locks.
use mathlib.Core.Path.{◌≡◌}
use mathlib.Core.Bool.{true}
use Rattle.rules.specs.Bounded.{all_below}
use Rattle.rules.specs.Machine.{place}
use Rattle.table.specs.Answers.{shown}
use Rattle.machine.specs.OtherTasks.{yields, held_below}
use Rattle.machine.proofs.taking.pass.Given as goal

abbrev pub invariant-loop-u : goal.invariant-loop-u
invariant-loop-u l = (all_below l.u (λ k. yields (shown l.t.table) l.x k (place l.p k)) ≡ true) × (l.locks ≡ held_below l.u (shown l.t.table) l.p l.x)

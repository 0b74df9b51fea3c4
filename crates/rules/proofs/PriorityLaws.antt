-- What else the priorities and thresholds of a table have: they fit a byte, a task's threshold is at most its priority, schedulers show 255,
-- 255; and in a table of kinds 0 and 1 alone the n tasks have the priorities 0 to n - 1, each once, which are also their thresholds.
-- Assumes nothing.
use Prim.Native.Nat.{ℕ, ◌≤◌, ◌<◌}
use mathlib.Core.Path.{◌≡◌, refl, sym, ◌∙◌}
use mathlib.Core.Bool.{true, false}
use mathlib.Core.List.{List}
use native.Mathlib.Omega.{arith}
use Rattle.rules.specs.Table.{Table, preemptive, is_task}
use Rattle.rules.specs.Reading.{Is, read, max_nodes}
use Rattle.rules.specs.Accepted.{Rooted}
use Rattle.rules.specs.Priorities.{has_thresholds, walk}
use Rattle.rules.specs.Counting.{task_count}
use Rattle.rules.proofs.Accepted.{accepted}
use Rattle.rules.proofs.Nodes.{task_at}
use Rattle.rules.proofs.EachMet.{each_met}
use Rattle.rules.proofs.Widths.{first, ceiling}
use Rattle.rules.proofs.RangesDecide.{ceiling_le}
use Rattle.rules.proofs.WalkIsClosed.{task_numbers, other_numbers}
use Rattle.rules.proofs.WidthBound.{tasks_within, first_below}
use Rattle.rules.proofs.PreemptiveOnly.{plain_has, plain_ceiling, plain_same}

module _ (b : List ℕ) (t : Table) (e : read b ≡ Is t) (has : has_thresholds t.tree ≡ true) where
  rooted : Rooted t.tree
  rooted = (accepted b t e).tree

  -- A task's priority is below the number of tasks, so below the number of nodes, which is at most 128.
  pub priority_below_tasks : (x : ℕ) → is_task t.tree x ≡ true → (walk t.tree).priority x < task_count t.tree
  priority_below_tasks x tx =
      omega (arith, (task_numbers t.tree rooted has x tx).0, first_below t.tree rooted has x tx)

  pub priority_below_nodes : (x : ℕ) → is_task t.tree x ≡ true → (walk t.tree).priority x < t.tree.nodes
  priority_below_nodes x tx = omega (arith, priority_below_tasks x tx, tasks_within t.tree rooted)

  pub priority_below_128 : (x : ℕ) → is_task t.tree x ≡ true → (walk t.tree).priority x < max_nodes
  priority_below_128 x tx = omega (arith, priority_below_nodes x tx, rooted.few)

  pub threshold_at_most_priority : (x : ℕ) → is_task t.tree x ≡ true → (walk t.tree).threshold x ≤ (walk t.tree).priority x
  threshold_at_most_priority x tx =
      omega (arith, task_numbers t.tree rooted has x tx, ceiling_le t.tree rooted has x (task_at t.tree x tx).0)

  -- A node that is no task.
  pub others_show_255 : (n : ℕ) → is_task t.tree n ≡ false → ((walk t.tree).priority n ≡ 255) × ((walk t.tree).threshold n ≡ 255)
  others_show_255 = other_numbers t.tree rooted has

-- A table of kinds 0 and 1 alone has thresholds, and the priorities of its tasks are the numbers below the number of tasks, each once.
module _ (b : List ℕ) (t : Table) (e : read b ≡ Is t) (plain : (n : ℕ) → n < t.tree.nodes → t.tree.kind n ≤ preemptive) where
  pub plain_has_thresholds : has_thresholds t.tree ≡ true
  plain_has_thresholds = plain_has t.tree (accepted b t e).tree plain

  numbers : (x : ℕ) → is_task t.tree x ≡ true
      → ((walk t.tree).priority x ≡ first t.tree x) × ((walk t.tree).threshold x ≡ ceiling t.tree x)
  numbers = task_numbers t.tree (accepted b t e).tree plain_has_thresholds

  pub plain_priority_below : (x : ℕ) → is_task t.tree x ≡ true → (walk t.tree).priority x < task_count t.tree
  plain_priority_below = priority_below_tasks b t e plain_has_thresholds

  pub plain_priorities_differ : (x u : ℕ) → is_task t.tree x ≡ true → is_task t.tree u ≡ true
      → (walk t.tree).priority x ≡ (walk t.tree).priority u → x ≡ u
  plain_priorities_differ x u tx tu q =
      plain_same t.tree (accepted b t e).tree plain x u tx tu (sym (numbers x tx).0 ∙ q ∙ (numbers u tu).0)

  pub plain_each_priority : (k : ℕ) → k < task_count t.tree
      → (x : ℕ) × (is_task t.tree x ≡ true) × ((walk t.tree).priority x ≡ k)
  unfolding task_count
  plain_each_priority =
      each_met (is_task t.tree) (walk t.tree).priority (task_count t.tree) plain_priority_below plain_priorities_differ
      t.tree.nodes refl

  pub plain_threshold : (x : ℕ) → is_task t.tree x ≡ true → (walk t.tree).threshold x ≡ (walk t.tree).priority x
  plain_threshold x tx =
      (numbers x tx).1 ∙ plain_ceiling t.tree (accepted b t e).tree plain x (task_at t.tree x tx).0 ∙ sym (numbers x tx).0

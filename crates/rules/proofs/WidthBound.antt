-- A node is no wider than the number of tasks at or below it: each of these is at or below one child only, so the children's counts add up.
-- So every first number is below the number of tasks.
-- Assumes nothing.
use Prim.Native.Nat.{ℕ, zero, suc, ◌+◌, ◌≤◌, ◌<◌}
use mathlib.Core.Path.{◌≡◌}
use mathlib.Core.Logic.{◌≢◌, ◌⊎◌, inl, inr}
use mathlib.Core.Bool.{Bool, true, false, ◌&&◌}
use native.Mathlib.Decide.{ℕ_discrete}
use native.Mathlib.Omega.{arith}
use Rattle.rules.specs.Bounded.{some_below}
use Rattle.rules.specs.Table.{Tree, task, fifo, is_task, is_child}
use Rattle.rules.specs.Accepted.{Rooted}
use Rattle.rules.specs.Preemption.{at_or_below}
use Rattle.rules.specs.Priorities.{has_thresholds}
use Rattle.rules.specs.Above.{Above, here}
use Rattle.rules.specs.Counting.{count_below, task_count}
use Rattle.rules.proofs.Bools.{bool, and_left, and_right, and_both, or_left, or_right}
use Rattle.rules.proofs.Bounded.{some_at}
use Rattle.rules.proofs.Nodes.{task_at, task_from, child_at}
use Rattle.rules.proofs.Climbs.{child_up, child_lower, one_child, root_above, below_above}
use Rattle.rules.proofs.Sums.{sum_below}
use Rattle.rules.proofs.Counting.{count_parts, count_mono, count_some, count_le}
use Rattle.rules.proofs.Widths.{width, share, first, first_root, share_child, share_other, width_task, width_fifo, width_row}
use Rattle.rules.proofs.Ranges.{within}

-- d is a task at or below n.
unfoldable under : Tree → ℕ → ℕ → Bool
under t n d = is_task t d && at_or_below t d n

-- d is a task at or below a child of n among the nodes below k.
unfoldable under_first : Tree → ℕ → ℕ → ℕ → Bool
under_first t n k d = some_below k (λ c. is_child t n c && under t c d)

module _ (t : Tree) (ok : Rooted t) where
  under_at : (n d : ℕ) → under t n d ≡ true → (is_task t d ≡ true) × Above t n d
  unfolding under
  under_at n d e =
      let k = and_left _ _ e in
      (k, (below_above t ok n d (task_at t d k).0).0 (and_right (is_task t d) _ e))

  under_from : (n d : ℕ) → is_task t d ≡ true → Above t n d → under t n d ≡ true
  unfolding under
  under_from n d k u = and_both _ _ k ((below_above t ok n d (task_at t d k).0).1 u)

  first_at : (n k d : ℕ) → under_first t n k d ≡ true → (c : ℕ) × (c < k) × (is_child t n c ≡ true) × (under t c d ≡ true)
  unfolding under_first
  first_at n k d e =
      let r = some_at k (λ c. is_child t n c && under t c d) e in
      (r.0, r.1, and_left _ _ r.2, and_right (is_child t n r.0) _ r.2)

  first_still : (n k d : ℕ) → under_first t n k d ≡ true → under_first t n (suc k) d ≡ true
  unfolding under_first some_below
  first_still n k d e = or_left _ _ e

  first_last : (n k d : ℕ) → is_child t n k ≡ true → under t k d ≡ true → under_first t n (suc k) d ≡ true
  unfolding under_first some_below
  first_last n k d e u = or_right (some_below k (λ c. is_child t n c && under t c d)) _ (and_both _ _ e u)

  -- The children of n among the nodes below k.
  row_few : (n : ℕ) → ((c : ℕ) → is_child t n c ≡ true → width t c ≤ count_below t.nodes (under t c))
      → (k : ℕ) → sum_below k (share t n) ≤ count_below t.nodes (under_first t n k)
  unfolding sum_below
  row_few n w zero = omega arith
  row_few n w (suc k) = side (bool (is_child t n k)) (row_few n w k)
    where
      side : (is_child t n k ≡ true) ⊎ (is_child t n k ≡ false) → sum_below k (share t n) ≤ count_below t.nodes (under_first t n k)
          → sum_below k (share t n) + share t n k ≤ count_below t.nodes (under_first t n (suc k))
      side (inl e) i =
          omega (
            arith,
            share_child t n k e,
            w k e,
            count_parts t.nodes (under_first t n k) (under t k) (under_first t n (suc k)) (first_still n k) (λ d. first_last n k d e)
                (λ d a b.
                let r = first_at n k d a in
                omega (arith, r.1, one_child t ok n r.2 e (under_at r.0 d r.3).1 (under_at k d b).1)),
          )
      side (inr e) i =
          omega (arith, share_other t n k e, count_mono t.nodes (under_first t n k) (under_first t n (suc k)) (first_still n k))

  width_sum : (n : ℕ) → n < t.nodes → t.kind n ≢ task → width t n ≤ sum_below t.nodes (share t n)
  width_sum n h z = side (ℕ_discrete (t.kind n) fifo)
    where
      side : Dec (t.kind n ≡ fifo) → width t n ≤ sum_below t.nodes (share t n)
      side (yes k) = omega (arith, width_fifo t ok n h k)
      side (no k) = omega (arith, width_row t ok n h z k)

  width_few : (f n : ℕ) → n < t.nodes → t.nodes ≤ n + f → width t n ≤ count_below t.nodes (under t n)
  width_few zero n h l = absurd (omega arith)
  width_few (suc f) n h l = side (ℕ_discrete (t.kind n) task) (width_few f)
    where
      side : Dec (t.kind n ≡ task) → ((c : ℕ) → c < t.nodes → t.nodes ≤ c + f → width t c ≤ count_below t.nodes (under t c))
          → width t n ≤ count_below t.nodes (under t n)
      side (yes k) g =
          omega (arith, width_task t ok n h k, count_some t.nodes n (under t n) h (under_from n n (task_from t n h k) here))
      side (no k) g =
          omega (
            arith,
            width_sum n h k,
            row_few n (λ c e. let i = child_lower t ok e in g c (child_at t n c e).0 (omega arith)) t.nodes,
            count_mono t.nodes (under_first t n t.nodes) (under t n) (λ d a.
                let r = first_at n t.nodes d a in
                let u = under_at r.0 d r.3 in
                under_from n d u.0 (child_up t r.2 u.1)),
          )

  width_all : width t 0 ≤ task_count t
  unfolding task_count
  width_all =
      omega (
        arith,
        width_few t.nodes 0 ok.some (omega arith),
        count_mono t.nodes (under t 0) (is_task t) (λ d e. (under_at 0 d e).0),
      )

  pub tasks_within : task_count t ≤ t.nodes
  unfolding task_count
  tasks_within = count_le t.nodes (is_task t)

  pub first_below : has_thresholds t ≡ true → (x : ℕ) → is_task t x ≡ true → first t x < task_count t
  first_below has x tx =
      let k = task_at t x tx in
      omega (arith, within t ok has (root_above t ok k.0), first_root t ok, width_task t ok x k.0 k.1, width_all)

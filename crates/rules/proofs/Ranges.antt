-- Each node owns a range of numbers, from its first on, as many as its width. Where thresholds exist, a child's range lies within its
-- parent's, and of two children of a preemptive scheduler the higher one's range ends before the other's begins.
-- Assumes nothing.
use Prim.Native.Nat.{ℕ, ◌+◌, ◌≤◌, ◌<◌}
use mathlib.Core.Path.{◌≡◌, refl}
use mathlib.Core.Logic.{◌≢◌}
use mathlib.Core.Bool.{true, not}
use native.Mathlib.Decide.{ℕ_discrete}
use native.Mathlib.Omega.{arith}
use lib.Dec.{eqb}
use borrow.Author.Tests.{eqb-true, eqb-false, ne_eqb}
use Rattle.rules.specs.Table.{Tree, task, preemptive, fifo, time_sliced, is_child}
use Rattle.rules.specs.Accepted.{Rooted}
use Rattle.rules.specs.Priorities.{has_thresholds}
use Rattle.rules.specs.Above.{Above, here, there}
use Rattle.rules.proofs.Bools.{and_left, and_right, not_true}
use Rattle.rules.proofs.Bounded.{all_at}
use Rattle.rules.proofs.Nodes.{child_at, child_from}
use Rattle.rules.proofs.Climbs.{parent_in}
use Rattle.rules.proofs.Sums.{sum_below, sum_part}
use Rattle.rules.proofs.Widths.{width, share, first, share_child, width_task, width_fifo, width_row, first_fifo, first_row}

module _ (t : Tree) (ok : Rooted t) where
  -- Of two children of a preemptive scheduler the higher one's range comes first.
  pub in_order : (p a c : ℕ) → is_child t p a ≡ true → is_child t p c ≡ true → t.kind p ≡ preemptive → a < c
      → first t a + width t a ≤ first t c
  in_order p a c ea ec k l =
      omega (
        arith,
        first_row t ok p a ea (λ z. omega arith),
        first_row t ok p c ec (λ z. omega arith),
        rw (share_child t p a ea) at (sum_part a c (share t p) l),
      )

module _ (t : Tree) (ok : Rooted t) (has : has_thresholds t ≡ true) where
  pub no_slices : (n : ℕ) → n < t.nodes → t.kind n ≢ time_sliced
  unfolding has_thresholds
  no_slices n h = eqb-false _ _ (not_true _ (and_left _ _ (all_at t.nodes _ has n h)))

  -- A scheduler's parent is preemptive, so under kinds 2 and 3 stand tasks alone.
  under_preemptive : (p c : ℕ) → is_child t p c ≡ true → t.kind c ≢ task → t.kind p ≡ preemptive
  unfolding has_thresholds
  under_preemptive p c e z =
      let q = child_at t p c e in
      eqb-true _ _ (rw (ne_eqb c 0 q.1, ne_eqb (t.kind c) task z, q.2) at
      (and_right (not (eqb (t.kind c) time_sliced)) _ (all_at t.nodes _ has c q.0)))

  pub flat : (p c : ℕ) → is_child t p c ≡ true → t.kind p ≢ preemptive → t.kind c ≡ task
  flat p c e k = side (ℕ_discrete (t.kind c) task)
    where
      side : Dec (t.kind c ≡ task) → t.kind c ≡ task
      side (yes z) = z
      side (no z) = absurd (k (under_preemptive p c e z))

  -- A child's range lies within its parent's.
  pub child_within : (p c : ℕ) → is_child t p c ≡ true
      → (first t p ≤ first t c) × (first t c + width t c ≤ first t p + width t p)
  child_within p c e = side (ℕ_discrete (t.kind p) fifo)
    where
      q : (c < t.nodes) × (c ≢ 0) × (t.parent c ≡ p)
      q = child_at t p c e

      i : (p < t.nodes) × (t.kind p ≢ task)
      i = parent_in t ok p c e

      part : sum_below c (share t p) + width t c ≤ sum_below t.nodes (share t p)
      part = rw (share_child t p c e) at (sum_part c t.nodes (share t p) q.0)

      side : Dec (t.kind p ≡ fifo) → (first t p ≤ first t c) × (first t c + width t c ≤ first t p + width t p)
      side (yes k) =
          omega (
            arith,
            part,
            first_fifo t ok p c e k,
            width_fifo t ok p i.0 k,
            width_task t ok c q.0 (flat p c e (λ z. omega arith)),
          )
      side (no k) = omega (arith, part, first_row t ok p c e k, width_row t ok p i.0 i.1 k)

  pub within : {a n : ℕ} → Above t a n → (first t a ≤ first t n) × (first t n + width t n ≤ first t a + width t a)
  within here = omega arith
  within (there {n = n} h z u) = omega (arith, within u, child_within (t.parent n) n (child_from t (t.parent n) n h z refl))

-- Where thresholds exist, the nearest common scheduler allows preemption exactly when the first number of the one task is below the ceiling of
-- the other. Under kind 1 the ranges of its two children stand in order, and hold all numbers of the two tasks. Under kinds 2 and 3 the
-- children are the tasks, and no number of one is below the ceiling of another.
-- Assumes nothing.
use Prim.Native.Nat.{ℕ, ◌≤◌, ◌<◌}
use mathlib.Core.Path.{◌≡◌, refl, sym}
use mathlib.Core.Logic.{◌≢◌, ◌⊎◌, inl, inr}
use mathlib.Core.Bool.{true, ◌&&◌, ◌||◌}
use native.Mathlib.Decide.{ℕ_discrete, dec_lt}
use native.Mathlib.Omega.{arith}
use lib.Dec.{ltb, eqb}
use borrow.Author.Tests.{ne_eqb, lt-ltb, le-ltb}
use Rattle.rules.specs.Table.{Tree, task, preemptive, non_preemptive, fifo, time_sliced, is_task, is_child}
use Rattle.rules.specs.Accepted.{Rooted}
use Rattle.rules.specs.Priorities.{has_thresholds}
use Rattle.rules.specs.Preemption.{allows, may_preempt}
use Rattle.rules.specs.Above.{Above, here, there, Nearest}
use Rattle.rules.proofs.Nodes.{task_at, child_at, child_from}
use Rattle.rules.proofs.Climbs.{parent_in, task_lowest}
use Rattle.rules.proofs.Nearest.{nearest}
use Rattle.rules.proofs.Widths.{width, first, ceiling, width_task, first_fifo, ceiling_shared, ceiling_own}
use Rattle.rules.proofs.Ranges.{in_order, no_slices, flat, child_within, within}

module _ (t : Tree) (ok : Rooted t) (has : has_thresholds t ≡ true) where
  pub ceiling_le : (n : ℕ) → n < t.nodes → ceiling t n ≤ first t n
  ceiling_le n h = side (ℕ_discrete n 0) (ℕ_discrete (t.kind (t.parent n)) non_preemptive)
    where
      side : Dec (n ≡ 0) → Dec (t.kind (t.parent n) ≡ non_preemptive) → ceiling t n ≤ first t n
      side z (no k) = omega (arith, ceiling_own t (t.parent n) n refl k)
      side (yes z) (yes k) =
          let q : t.parent n ≡ n = rw z ok.root in
          omega (arith, rw q at (ceiling_shared t (t.parent n) n refl k))
      side (no z) (yes k) =
          omega (
            arith,
            ceiling_shared t (t.parent n) n refl k,
            child_within t ok has (t.parent n) n (child_from t (t.parent n) n h z refl),
          )

  -- The ceiling of what is below a child of kind 1 lies within the child's range.
  ceiling_within : (p : ℕ) {c u : ℕ} → is_child t p c ≡ true → t.kind p ≡ preemptive → Above t c u → first t c ≤ ceiling t u
  ceiling_within p {c} e k here = omega (arith, ceiling_own t p c (child_at t p c e).2 (λ z. omega arith))
  ceiling_within p {c} e k (there {n = u} h z v) = side (ℕ_discrete (t.kind (t.parent u)) non_preemptive)
    where
      side : Dec (t.kind (t.parent u) ≡ non_preemptive) → first t c ≤ ceiling t u
      side (yes k) = omega (arith, ceiling_shared t (t.parent u) u refl k, within t ok has v)
      side (no k) = omega (arith, ceiling_own t (t.parent u) u refl k, within t ok has (there h z v))

  decided : (x u p a c : ℕ) → is_task t x ≡ true → is_task t u ≡ true → Nearest t x u p a c → allows t p a c ≡ ltb (first t x) (ceiling t u)
  unfolding allows
  decided x u p a c tx tu r = side (ℕ_discrete k preemptive) (dec_lt a c)
    where
      k : ℕ
      k = t.kind p

      i : (p < t.nodes) × (t.kind p ≢ task)
      i = parent_in t ok p a r.child_x

      wx : width t x ≡ 1
      wx = width_task t ok x (task_at t x tx).0 (task_at t x tx).1

      wu : width t u ≡ 1
      wu = width_task t ok u (task_at t u tu).0 (task_at t u tu).1

      -- Under kinds 2 and 3.
      children : (k ≡ non_preemptive) ⊎ (k ≡ fifo) → ceiling t c ≤ first t a
      children (inl q) =
          omega (arith, ceiling_shared t p c (child_at t p c r.child_u).2 q, child_within t ok has p a r.child_x)
      children (inr q) =
          omega (
            arith,
            ceiling_own t p c (child_at t p c r.child_u).2 (λ z. omega arith),
            first_fifo t ok p a r.child_x q,
            first_fifo t ok p c r.child_u q,
          )

      either : k ≢ preemptive → Dec (k ≡ fifo) → (k ≡ non_preemptive) ⊎ (k ≡ fifo)
      either n (yes q) = inr q
      either n (no q) = inl (omega (arith, i.1, ok.kinds p i.0, no_slices t ok has p i.0))

      tasks : k ≢ preemptive → ceiling t u ≤ first t x
      tasks n =
          rw (
            ← task_lowest t ok (flat t ok has p a r.child_x n) r.holds_x,
            ← task_lowest t ok (flat t ok has p c r.child_u n) r.holds_u,
          )
          (children (either n (ℕ_discrete k fifo)))

      side : Dec (k ≡ preemptive) → Dec (a < c) → (eqb k time_sliced || (eqb k preemptive && ltb a c)) ≡ ltb (first t x) (ceiling t u)
      side (yes q) (yes l) =
          rw (q, lt-ltb a c l) (sym (lt-ltb (first t x) (ceiling t u)
          (omega (
            arith,
            wx,
            within t ok has r.holds_x,
            in_order t ok p a c r.child_x r.child_u q l,
            ceiling_within p r.child_u q r.holds_u,
          ))))
      side (yes q) (no l) =
          let d = r.differ in
          rw (q, le-ltb a c (omega arith)) (sym (le-ltb (first t x) (ceiling t u)
          (omega (
            arith,
            wu,
            within t ok has r.holds_x,
            within t ok has r.holds_u,
            in_order t ok p c a r.child_u r.child_x q (omega arith),
            ceiling_le u (task_at t u tu).0,
          ))))
      side (no n) l =
          rw (ne_eqb k time_sliced (no_slices t ok has p i.0), ne_eqb k preemptive n) (sym (le-ltb _ _ (tasks n)))

  pub preempts_is : (x u : ℕ) → is_task t x ≡ true → is_task t u ≡ true → x ≢ u → may_preempt t x u ≡ ltb (first t x) (ceiling t u)
  unfolding may_preempt
  preempts_is x u tx tu d = rw (tx, tu, ne_eqb x u d) (decided x u _ _ _ tx tu (nearest t ok x u tx tu d))

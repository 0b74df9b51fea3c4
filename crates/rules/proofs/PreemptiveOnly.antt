-- In a tree of kinds 0 and 1 alone thresholds exist, no two tasks share a number, since the ranges of the two children that hold them stand in
-- order, and a task's threshold is its own number.
-- Assumes nothing.
use Prim.Native.Nat.{ℕ, ◌≤◌, ◌<◌}
use mathlib.Core.Path.{◌≡◌, refl}
use mathlib.Core.Logic.{◌≢◌}
use mathlib.Core.Bool.{true, not, ◌&&◌, ◌||◌}
use native.Mathlib.Decide.{ℕ_discrete, dec_lt}
use native.Mathlib.Omega.{arith}
use lib.Dec.{eqb}
use borrow.Author.Tests.{eq-eqb, ne_eqb}
use Rattle.rules.specs.Table.{Tree, task, preemptive, time_sliced, is_task}
use Rattle.rules.specs.Accepted.{Rooted}
use Rattle.rules.specs.Priorities.{has_thresholds}
use Rattle.rules.specs.Above.{Nearest}
use Rattle.rules.proofs.Bools.{or_right}
use Rattle.rules.proofs.Bounded.{all_from}
use Rattle.rules.proofs.Nodes.{task_at}
use Rattle.rules.proofs.Climbs.{parent_in}
use Rattle.rules.proofs.Nearest.{nearest}
use Rattle.rules.proofs.Widths.{first, ceiling, width_task, ceiling_own}
use Rattle.rules.proofs.Ranges.{in_order, within}

module _ (t : Tree) (ok : Rooted t) (plain : (n : ℕ) → n < t.nodes → t.kind n ≤ preemptive) where
  parent_within : (n : ℕ) → n < t.nodes → t.parent n < t.nodes
  parent_within n h = side (ℕ_discrete n 0)
    where
      side : Dec (n ≡ 0) → t.parent n < t.nodes
      side (yes z) = rw (z, ok.root) ok.some
      side (no z) = omega (arith, ok.lower n h z)

  pub plain_has : has_thresholds t ≡ true
  unfolding has_thresholds
  plain_has = all_from t.nodes _ (λ n h. side n h (ℕ_discrete n 0))
    where
      under : (n : ℕ) → n < t.nodes → Dec (n ≡ 0)
          → (eqb n 0 || eqb (t.kind n) task || eqb (t.kind (t.parent n)) preemptive) ≡ true
      under n h (yes z) = rw (eq-eqb n 0 z)
      under n h (no z) =
          or_right (eqb n 0 || eqb (t.kind n) task) _ (eq-eqb (t.kind (t.parent n)) preemptive
          (omega (arith, plain (t.parent n) (parent_within n h), ok.inner n h z)))

      side : (n : ℕ) → n < t.nodes → Dec (n ≡ 0)
          → (not (eqb (t.kind n) time_sliced) && (eqb n 0 || eqb (t.kind n) task || eqb (t.kind (t.parent n)) preemptive)) ≡ true
      side n h d = rw (ne_eqb (t.kind n) time_sliced (λ z. omega (arith, plain n h))) (under n h d)

  pub plain_ceiling : (n : ℕ) → n < t.nodes → ceiling t n ≡ first t n
  plain_ceiling n h = ceiling_own t (t.parent n) n refl (λ z. omega (arith, plain (t.parent n) (parent_within n h)))

  -- One of two different tasks has its number before the other's.
  plain_apart : (x u p a c : ℕ) → is_task t x ≡ true → is_task t u ≡ true → Nearest t x u p a c → first t x ≢ first t u
  plain_apart x u p a c tx tu r e = side (dec_lt a c)
    where
      kx : (x < t.nodes) × (t.kind x ≡ task)
      kx = task_at t x tx

      ku : (u < t.nodes) × (t.kind u ≡ task)
      ku = task_at t u tu

      k : t.kind p ≡ preemptive
      k = let i = parent_in t ok p a r.child_x in omega (arith, i.1, plain p i.0)

      side : Dec (a < c) → ⊥
      side (yes l) =
          omega (
            arith,
            e,
            in_order t ok p a c r.child_x r.child_u k l,
            within t ok plain_has r.holds_x,
            within t ok plain_has r.holds_u,
            width_task t ok x kx.0 kx.1,
          )
      side (no l) =
          let d = r.differ in
          omega (
            arith,
            e,
            in_order t ok p c a r.child_u r.child_x k (omega arith),
            within t ok plain_has r.holds_x,
            within t ok plain_has r.holds_u,
            width_task t ok u ku.0 ku.1,
          )

  pub plain_same : (x u : ℕ) → is_task t x ≡ true → is_task t u ≡ true → first t x ≡ first t u → x ≡ u
  plain_same x u tx tu e = side (ℕ_discrete x u)
    where
      side : Dec (x ≡ u) → x ≡ u
      side (yes q) = q
      side (no q) = absurd (plain_apart x u _ _ _ tx tu (nearest t ok x u tx tu q) e)

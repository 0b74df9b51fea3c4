-- Thresholds exist exactly as refusal 13 has it: no node is of kind 4, and no scheduler is a child of kind 2 or 3. A parent is a scheduler, so
-- where no node is of kind 4 its kind is 1, 2 or 3, and the definition's 'its parent is preemptive' is 'its parent is not of kind 2 or 3'.
-- Assumes nothing.
use Prim.Native.Nat.{ℕ, ◌<◌}
use mathlib.Core.Path.{◌≡◌}
use mathlib.Core.Logic.{◌≢◌, ◌↔◌}
use mathlib.Core.Bool.{true, not, ◌&&◌, ◌||◌}
use native.Mathlib.Decide.{ℕ_discrete}
use native.Mathlib.Omega.{arith}
use lib.Dec.{eqb}
use borrow.Author.Tests.{eqb-true, eqb-false, eq-eqb, ne_eqb}
use Rattle.rules.specs.Table.{Tree, task, preemptive, non_preemptive, fifo, time_sliced}
use Rattle.rules.specs.Accepted.{Rooted}
use Rattle.rules.specs.Priorities.{has_thresholds}
use Rattle.rules.proofs.Bools.{and_left, and_right, not_true}
use Rattle.rules.proofs.Bounded.{all_at, all_from}

-- What refusal 13 asks of node n: it is not of kind 4, and if it is a scheduler below another, that one is not of kind 2 or 3.
pub record Numberable (t : Tree) (n : ℕ) : Type 0 where
  pub unsliced : t.kind n ≢ time_sliced
  pub above : n ≢ 0 → t.kind n ≢ task → (t.kind (t.parent n) ≢ non_preemptive) × (t.kind (t.parent n) ≢ fifo)

module _ (t : Tree) (ok : Rooted t) where
  pub thresholds_exist : has_thresholds t ≡ true ↔ ((n : ℕ) → n < t.nodes → Numberable t n)
  unfolding has_thresholds
  thresholds_exist = (λ e n h. from n h (all_at t.nodes _ e n h), λ f. all_from t.nodes _ (λ n h. to n h f))
    where
      from : (n : ℕ) → n < t.nodes
          → (not (eqb (t.kind n) time_sliced) && (eqb n 0 || eqb (t.kind n) task || eqb (t.kind (t.parent n)) preemptive)) ≡ true → Numberable t n
      from n h e =
          record {
            unsliced = eqb-false _ _ (not_true _ (and_left _ _ e));
            above = λ z k.
                let q : t.kind (t.parent n) ≡ preemptive = eqb-true _ _ (rw (ne_eqb n 0 z, ne_eqb (t.kind n) task k) at (and_right (not (eqb (t.kind n) time_sliced)) _ e)) in
                (λ w. omega arith, λ w. omega arith);
          }

      to : (n : ℕ) → n < t.nodes → ((m : ℕ) → m < t.nodes → Numberable t m)
          → (not (eqb (t.kind n) time_sliced) && (eqb n 0 || eqb (t.kind n) task || eqb (t.kind (t.parent n)) preemptive)) ≡ true
      to n h f = rw (ne_eqb (t.kind n) time_sliced (f n h).unsliced) (side (ℕ_discrete n 0) (ℕ_discrete (t.kind n) task))
        where
          side : Dec (n ≡ 0) → Dec (t.kind n ≡ task) → (eqb n 0 || eqb (t.kind n) task || eqb (t.kind (t.parent n)) preemptive) ≡ true
          side (yes z) d = rw (eq-eqb n 0 z)
          side (no z) (yes k) = rw (ne_eqb n 0 z, eq-eqb (t.kind n) task k)
          side (no z) (no k) =
              let l = ok.lower n h z in
              let p : t.kind (t.parent n) ≡ preemptive =
              omega (arith, ok.kinds (t.parent n) (omega arith), ok.inner n h z, (f (t.parent n) (omega arith)).unsliced, (f n h).above z k) in
              rw (ne_eqb n 0 z, ne_eqb (t.kind n) task k, eq-eqb (t.kind (t.parent n)) preemptive p)

-- A kind and its number tell each other: the number that a kind stands for is the one that it was made of.
-- Assumes nothing.
use Prim.Native.Nat.{ℕ, zero, suc, ◌≤◌, ◌<◌}
use mathlib.Core.Path.{◌≡◌, refl, sym, ◌∙◌, ap}
use mathlib.Core.Logic.{◌≢◌}
use mathlib.Core.Bool.{true, false, cond}
use native.Mathlib.Decide.{ℕ_discrete, dec_le}
use native.Mathlib.Omega.{arith}
use lib.Dec.{eqb, leb}
use Rattle.rules.specs.Table.{task, preemptive, non_preemptive, fifo, time_sliced, blocking, mask}
use borrow.Author.Tests.{eq-eqb, ne_eqb, le-leb, lt-leb}
use Rattle.table.specs.declared.kinds.NodeKind.{NodeKind}
use Rattle.table.specs.declared.kinds.NodeKind.TheVariants as nodes
use Rattle.table.specs.declared.kinds.LockKind.{LockKind}
use Rattle.table.specs.declared.kinds.LockKind.TheVariants as locks
use Rattle.table.specs.Kinds.{node_kind, lock_kind}

unfoldable pub node_number : NodeKind → ℕ
node_number nodes.Task = 0
node_number nodes.Preemptive = 1
node_number nodes.NonPreemptive = 2
node_number nodes.Fifo = 3
node_number nodes.TimeSliced = 4
node_number (nodes.Unlisted n) = n

unfoldable pub lock_number : LockKind → ℕ
lock_number locks.Blocking = 0
lock_number locks.Mask = 1
lock_number (locks.Unlisted n) = n

-- A test of a number against a constant, in either case.
module _ {A : Type 0} (g : A → ℕ) (n m : ℕ) (x y : A) where
  pub test_back : g x ≡ m → g y ≡ n → g (cond (eqb n m) x y) ≡ n
  test_back e f = side (ℕ_discrete n m)
    where
      side : Dec (n ≡ m) → g (cond (eqb n m) x y) ≡ n
      side (yes p) = rw (eq-eqb n m p) (e ∙ sym p)
      side (no p) = rw (ne_eqb n m p) f

pub node_back : (n : ℕ) → node_number (node_kind n) ≡ n
unfolding node_kind
node_back n =
    test_back node_number n 0 _ _ (unfold node_number in refl)
    (test_back node_number n 1 _ _ (unfold node_number in refl)
    (test_back node_number n 2 _ _ (unfold node_number in refl)
    (test_back node_number n 3 _ _ (unfold node_number in refl)
    (test_back node_number n 4 _ _ (unfold node_number in refl)
    (unfold node_number in refl)))))

pub lock_back : (n : ℕ) → lock_number (lock_kind n) ≡ n
unfolding lock_kind
lock_back n =
    test_back lock_number n 0 _ _ (unfold lock_number in refl)
    (test_back lock_number n 1 _ _ (unfold lock_number in refl)
    (unfold lock_number in refl))

-- The test of a number is the test of the kind.
module _ (n : ℕ) where
  node_is : (v : NodeKind) → v ≡ node_kind n → eqb n (node_number v) ≡ true
  node_is v e = eq-eqb _ _ (sym (ap node_number e ∙ node_back n))

  node_not : (v : NodeKind) (m : ℕ) → v ≡ node_kind n → v ≢ node_kind m → eqb n m ≡ false
  node_not v m e h = ne_eqb _ _ (λ q. h (e ∙ ap node_kind q))

  lock_is : (v : LockKind) → v ≡ lock_kind n → eqb n (lock_number v) ≡ true
  lock_is v e = eq-eqb _ _ (sym (ap lock_number e ∙ lock_back n))

  lock_not : (v : LockKind) (m : ℕ) → v ≡ lock_kind n → v ≢ lock_kind m → eqb n m ≡ false
  lock_not v m e h = ne_eqb _ _ (λ q. h (e ∙ ap lock_kind q))

  pub task_is : nodes.Task ≡ node_kind n → eqb n task ≡ true
  unfolding node_number
  task_is e = node_is nodes.Task e

  pub task_not : (v : NodeKind) → v ≡ node_kind n → v ≢ nodes.Task → eqb n task ≡ false
  unfolding node_kind
  task_not v e h = node_not v task e h

  pub preemptive_is : nodes.Preemptive ≡ node_kind n → eqb n preemptive ≡ true
  unfolding node_number
  preemptive_is e = node_is nodes.Preemptive e

  pub preemptive_not : (v : NodeKind) → v ≡ node_kind n → v ≢ nodes.Preemptive → eqb n preemptive ≡ false
  unfolding node_kind
  preemptive_not v e h = node_not v preemptive e h

  pub non_preemptive_is : nodes.NonPreemptive ≡ node_kind n → eqb n non_preemptive ≡ true
  unfolding node_number
  non_preemptive_is e = node_is nodes.NonPreemptive e

  pub non_preemptive_not : (v : NodeKind) → v ≡ node_kind n → v ≢ nodes.NonPreemptive → eqb n non_preemptive ≡ false
  unfolding node_kind
  non_preemptive_not v e h = node_not v non_preemptive e h

  pub fifo_is : nodes.Fifo ≡ node_kind n → eqb n fifo ≡ true
  unfolding node_number
  fifo_is e = node_is nodes.Fifo e

  pub fifo_not : (v : NodeKind) → v ≡ node_kind n → v ≢ nodes.Fifo → eqb n fifo ≡ false
  unfolding node_kind
  fifo_not v e h = node_not v fifo e h

  pub time_sliced_is : nodes.TimeSliced ≡ node_kind n → eqb n time_sliced ≡ true
  unfolding node_number
  time_sliced_is e = node_is nodes.TimeSliced e

  pub time_sliced_not : (v : NodeKind) → v ≡ node_kind n → v ≢ nodes.TimeSliced → eqb n time_sliced ≡ false
  unfolding node_kind
  time_sliced_not v e h = node_not v time_sliced e h

  pub blocking_is : locks.Blocking ≡ lock_kind n → eqb n blocking ≡ true
  unfolding lock_number
  blocking_is e = lock_is locks.Blocking e

  pub blocking_not : (v : LockKind) → v ≡ lock_kind n → v ≢ locks.Blocking → eqb n blocking ≡ false
  unfolding lock_kind
  blocking_not v e h = lock_not v blocking e h

  pub mask_is : locks.Mask ≡ lock_kind n → eqb n mask ≡ true
  unfolding lock_number
  mask_is e = lock_is locks.Mask e

  pub mask_not : (v : LockKind) → v ≡ lock_kind n → v ≢ locks.Mask → eqb n mask ≡ false
  unfolding lock_kind
  mask_not v e h = lock_not v mask e h

-- A byte that names no kind is above the last of them; one that names a kind is not.
node_high : (n : ℕ) → time_sliced < n → node_kind n ≡ nodes.Unlisted n
unfolding node_kind
node_high n h = rw (ne_eqb n 0 (λ q. omega arith), ne_eqb n 1 (λ q. omega arith), ne_eqb n 2 (λ q. omega arith), ne_eqb n 3 (λ q. omega arith), ne_eqb n 4 (λ q. omega arith))

lock_high : (n : ℕ) → mask < n → lock_kind n ≡ locks.Unlisted n
unfolding lock_kind
lock_high n h = rw (ne_eqb n 0 (λ q. omega arith), ne_eqb n 1 (λ q. omega arith))

node_low : (n u : ℕ) → n ≤ time_sliced → node_kind n ≢ nodes.Unlisted u
unfolding node_kind
node_low zero u h e = cc
node_low (suc zero) u h e = cc
node_low (suc (suc zero)) u h e = cc
node_low (suc (suc (suc zero))) u h e = cc
node_low (suc (suc (suc (suc zero)))) u h e = cc
node_low (suc (suc (suc (suc (suc n))))) u h e = absurd (omega arith)

lock_low : (n u : ℕ) → n ≤ mask → lock_kind n ≢ locks.Unlisted u
unfolding lock_kind
lock_low zero u h e = cc
lock_low (suc zero) u h e = cc
lock_low (suc (suc n)) u h e = absurd (omega arith)

module _ (n : ℕ) where
  pub unlisted_node : (u : ℕ) → nodes.Unlisted u ≡ node_kind n → leb n time_sliced ≡ false
  unlisted_node u e = side (dec_le n time_sliced)
    where
      side : Dec (n ≤ time_sliced) → leb n time_sliced ≡ false
      side (yes l) = absurd (node_low n u l (sym e))
      side (no l) = lt-leb _ _ (omega arith)

  pub listed_node : (v : NodeKind) → v ≡ node_kind n → ((u : ℕ) → v ≢ nodes.Unlisted u) → leb n time_sliced ≡ true
  listed_node v e h = side (dec_le n time_sliced)
    where
      side : Dec (n ≤ time_sliced) → leb n time_sliced ≡ true
      side (yes l) = le-leb _ _ l
      side (no l) = absurd (h n (e ∙ node_high n (omega arith)))

  pub unlisted_lock : (u : ℕ) → locks.Unlisted u ≡ lock_kind n → leb n mask ≡ false
  unlisted_lock u e = side (dec_le n mask)
    where
      side : Dec (n ≤ mask) → leb n mask ≡ false
      side (yes l) = absurd (lock_low n u l (sym e))
      side (no l) = lt-leb _ _ (omega arith)

  pub listed_lock : (v : LockKind) → v ≡ lock_kind n → ((u : ℕ) → v ≢ locks.Unlisted u) → leb n mask ≡ true
  listed_lock v e h = side (dec_le n mask)
    where
      side : Dec (n ≤ mask) → leb n mask ≡ true
      side (yes l) = le-leb _ _ l
      side (no l) = absurd (h n (e ∙ lock_high n (omega arith)))

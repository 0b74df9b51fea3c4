-- One task over another: the machine's two tests against the other tasks, as facts. In a granted step the task that steps is over every other
-- active task.
-- Assumes nothing.
use Prim.Native.Nat.{ℕ, zero, suc, ◌+◌, ◌-◌, ◌<◌}
use mathlib.Core.Path.{◌≡◌, refl}
use mathlib.Core.Logic.{◌≢◌}
use mathlib.Core.Bool.{Bool, true, false, not, ◌&&◌, ◌||◌, and_comm}
use mathlib.Core.List.{List}
use native.Mathlib.Nat.{zero-div}
use native.Mathlib.Decide.{ℕ_discrete}
use native.Mathlib.Omega.{arith}
use lib.Dec.{eqb}
use borrow.Author.Tests.{eq-eqb, ne_eqb, le-leb, lt-leb}
use Rattle.rules.specs.Bounded.{some_below}
use Rattle.rules.specs.Table.{Table}
use Rattle.rules.specs.Preemption.{may_preempt}
use Rattle.rules.specs.Locks.{in_set, masked, blocked}
use Rattle.rules.specs.Machine.{place, idle, outside, inside, held, may_take, unblocked, Step, Start, Open, Close, Finish, stepper, free, next}
use Rattle.rules.proofs.Bools.{and_left, and_right, or_right, not_true}
use Rattle.rules.proofs.Bounded.{all_at, all_from, some_none}
use Rattle.rules.proofs.States.{task_below, active_task}
use Rattle.rules.proofs.Steps.{Grant}

-- The lock set of a task that is inside access i is that access's.
pub held_inside : (t : Table) (i : ℕ) → held t (inside i) ≡ t.lock_set i
unfolding held
held_inside t i = let q : 2 + i - 2 ≡ i = omega arith in rw (le-leb 2 (2 + i) (omega arith), q)

some_not : (n : ℕ) (p : ℕ → Bool) → ((k : ℕ) → k < n → p k ≡ false) → some_below n p ≡ false
unfolding some_below
some_not zero p f = refl
some_not (suc n) p f = rw (some_not n p (λ k h. f k (omega arith)), f n (omega arith))

-- Who is not inside shares no blocking lock, and sharing goes both ways.
pub held_nothing : (t : Table) (v r : ℕ) → v < 2 → blocked t r (held t v) ≡ false
unfolding blocked held in_set
held_nothing t v r l = some_not t.locks _ (λ k h. rw (lt-leb 2 v l, zero-div, and_comm (in_set k r) false))

pub unblocked_both : (t : Table) (r s : ℕ) → blocked t r s ≡ false → blocked t s r ≡ false
unfolding blocked
unblocked_both t r s e = some_not t.locks _ (λ k h. rw (and_comm (in_set k s) (in_set k r)) (some_none t.locks _ e k h))

-- Task x may take the processor from task u, at whose place v stands: it may preempt u, and no mask in the set of u's open access covers it.
pub record TakesFrom (t : Table) (x u v : ℕ) : Type 0 where
  pub preempts : may_preempt t.tree x u ≡ true
  pub unmasked : masked t (held t v) x ≡ false

-- Task x, at whose place w stands, is over task u, at whose place v stands: it may take the processor from u, and no blocking lock is in the
-- sets of both.
pub record Over (t : Table) (x w u v : ℕ) : Type 0 where
  pub takes : TakesFrom t x u v
  pub unshared : blocked t (held t v) (held t w) ≡ false

-- A task may take the processor exactly when it may take it from every other active task.
module _ (t : Table) (s : List ℕ) (x : ℕ) where
  take_at : may_take t s x ≡ true → (u : ℕ) → u < t.tree.nodes → u ≢ x → place s u ≢ idle → TakesFrom t x u (place s u)
  unfolding may_take
  take_at e u h q z =
      let r = rw (ne_eqb u x q, ne_eqb (place s u) 0 z) at (all_at t.tree.nodes _ e u h) in
      record { preempts = and_left _ _ r; unmasked = not_true _ (and_right (may_preempt t.tree x u) _ r) }

  pub take_from : ((u : ℕ) → u ≢ x → place s u ≢ idle → TakesFrom t x u (place s u)) → may_take t s x ≡ true
  unfolding may_take
  take_from f = all_from t.tree.nodes _ (λ u h. one u (ℕ_discrete u x) (ℕ_discrete (place s u) 0))
    where
      one : (u : ℕ) → Dec (u ≡ x) → Dec (place s u ≡ 0)
          → (eqb u x || eqb (place s u) 0 || (may_preempt t.tree x u && not (masked t (held t (place s u)) x))) ≡ true
      one u (yes q) d = rw (eq-eqb u x q)
      one u (no q) (yes z) = rw (ne_eqb u x q, eq-eqb (place s u) 0 z)
      one u (no q) (no z) = let r = f u q z in rw (ne_eqb u x q, ne_eqb (place s u) 0 z, r.preempts, r.unmasked)

-- Access i is unblocked exactly when it shares no blocking lock with any other task's open access.
module _ (t : Table) (s : List ℕ) (i : ℕ) where
  unblocked_at : unblocked t s i ≡ true → (u : ℕ) → u < t.tree.nodes → u ≢ t.task_of i
      → blocked t (t.lock_set i) (held t (place s u)) ≡ false
  unfolding unblocked
  unblocked_at e u h q = not_true _ (rw (ne_eqb u (t.task_of i) q) at (all_at t.tree.nodes _ e u h))

  pub unblocked_from : ((u : ℕ) → u ≢ t.task_of i → blocked t (t.lock_set i) (held t (place s u)) ≡ false) → unblocked t s i ≡ true
  unfolding unblocked
  unblocked_from f = all_from t.tree.nodes _ (λ u h. one u (ℕ_discrete u (t.task_of i)))
    where
      one : (u : ℕ) → Dec (u ≡ t.task_of i) → (eqb u (t.task_of i) || not (blocked t (t.lock_set i) (held t (place s u)))) ≡ true
      one u (yes q) = rw (eq-eqb u (t.task_of i) q)
      one u (no q) = rw (f u q) (or_right (eqb u (t.task_of i)) true refl)

-- Only an open gives its task locks, and they were free.
step_unshared : (t : Table) (s : List ℕ) (c : Step) → free t s c ≡ true → (u : ℕ) → u < t.tree.nodes → u ≢ stepper t c
    → blocked t (held t (place s u)) (held t (next c)) ≡ false
unfolding free stepper next
step_unshared t s (Start x) e u h q = held_nothing t outside _ (omega arith)
step_unshared t s (Open i) e u h q = rw (held_inside t i) (unblocked_both t (t.lock_set i) _ (unblocked_at t s i e u h q))
step_unshared t s (Close x) e u h q = held_nothing t outside _ (omega arith)
step_unshared t s (Finish x) e u h q = held_nothing t idle _ (omega arith)

pub step_over : (t : Table) (s : List ℕ) (c : Step) (r : List ℕ) → Grant t s c r
    → (u : ℕ) → u ≢ stepper t c → place s u ≢ idle → Over t (stepper t c) (next c) u (place s u)
step_over t s c r g u q z =
    let node = task_below t u (active_task t s g.formed u z) in
    record { takes = take_at t s (stepper t c) g.takes u node q z; unshared = step_unshared t s c g.clear u node q }

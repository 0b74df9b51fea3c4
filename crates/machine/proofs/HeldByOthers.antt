-- An access may be opened exactly when no blocking lock of it is in the union of what the other tasks hold: a lock is in the union exactly
-- when it is in one of the sets, so the union blocks exactly when one of the sets does.
-- Assumes nothing.
use Prim.Native.Nat.{ℕ, zero, suc}
use mathlib.Core.Path.{◌≡◌, refl, sym}
use mathlib.Core.Bool.{Bool, true, false, not, ◌&&◌, ◌||◌, cond}
use mathlib.Core.List.{List}
use lib.Bits.{bit_or}
use lib.Dec.{eqb}
use Rattle.rules.specs.Bounded.{all_below, some_below}
use Rattle.rules.specs.Table.{Table, blocking}
use Rattle.rules.specs.Locks.{in_set, blocked}
use Rattle.rules.specs.Machine.{place, held, unblocked, Step, Start, Open, Close, Finish, stepper, free}
use Rattle.rules.proofs.Unions.{has_or}
use Rattle.machine.specs.OtherTasks.{adds, held_below, held_by_others, free_of}
use Rattle.machine.proofs.EmptySets.{empty_free}

-- One lock more: p and q say whether the one set or the other blocks by a lower lock; i whether this lock is asked for, a and b whether it
-- is in the sets, z whether it is blocking.
one_lock : (p q i a b z : Bool) → (p || q || (i && (a || b) && z)) ≡ (p || (i && a && z) || (q || (i && b && z)))
one_lock true q i a b z = refl
one_lock false true false a b z = refl
one_lock false true true true b true = refl
one_lock false true true true b false = refl
one_lock false true true false b z = refl
one_lock false false false a b z = refl
one_lock false false true true true true = refl
one_lock false false true true true false = refl
one_lock false false true true false true = refl
one_lock false false true true false false = refl
one_lock false false true false b z = refl

-- A union blocks exactly when one of its two sets does.
blocked_by_one : (t : Table) (r a b : ℕ) → blocked t r (bit_or a b) ≡ (blocked t r a || blocked t r b)
unfolding blocked some_below
blocked_by_one t r a b = below t.locks
  where
    shares : ℕ → ℕ → Bool
    shares s k = in_set k r && in_set k s && eqb (t.lock_kind k) blocking

    below : (n : ℕ) → some_below n (shares (bit_or a b)) ≡ (some_below n (shares a) || some_below n (shares b))
    below zero = refl
    below (suc n) = rw (below n, has_or n a b) (one_lock (some_below n (shares a)) (some_below n (shares b)) (in_set n r) (in_set n a) (in_set n b) (eqb (t.lock_kind n) blocking))

-- What one task holds; a task does not stand in its own way.
one_task : (own : Bool) (t : Table) (r l : ℕ) → (own || not (blocked t r l)) ≡ not (blocked t r (cond own 0 l))
one_task true t r l = rw (empty_free t r)
one_task false t r l = refl

neither : (a b : Bool) → (not a && not b) ≡ not (a || b)
neither true b = refl
neither false b = refl

free_below : (n : ℕ) (t : Table) (s : List ℕ) (r x : ℕ)
    → all_below n (λ u. eqb u x || not (blocked t r (held t (place s u)))) ≡ not (blocked t r (held_below n t s x))
unfolding all_below held_below
free_below zero t s r x = rw (empty_free t r)
free_below (suc n) t s r x =
    let last = adds t x n (place s n) in
    rw (free_below n t s r x, one_task (eqb n x) t r (held t (place s n)), blocked_by_one t r (held_below n t s x) last)
    (neither (blocked t r (held_below n t s x)) (blocked t r last))

pub unblocked_by_union : (t : Table) (s : List ℕ) (i : ℕ) → unblocked t s i ≡ not (blocked t (t.lock_set i) (held_by_others t s (t.task_of i)))
unfolding unblocked held_by_others
unblocked_by_union t s i = free_below t.tree.nodes t s (t.lock_set i) (t.task_of i)

-- The same for every step, with x the task whose step it is and l what the others hold.
pub free_by_union : (t : Table) (s : List ℕ) (c : Step) (x l : ℕ) → x ≡ stepper t c → l ≡ held_by_others t s x → free_of t l c ≡ free t s c
unfolding stepper free free_of
free_by_union t s (Start y) x l e h = refl
free_by_union t s (Open i) x l e h = rw (h, e) (sym (unblocked_by_union t s i))
free_by_union t s (Close y) x l e h = refl
free_by_union t s (Finish y) x l e h = refl

-- A row's bits are races: the resource's word has the accesses of the same resource, the task's word those that may preempt it, and the
-- words of the locks in the set have those from which a mask or a blocking lock keeps the access safe.
-- Assumes nothing.
use Prim.Native.Nat.{ℕ, ◌+◌, ◌^◌, ◌≤◌, ◌<◌}
use mathlib.Core.Path.{◌≡◌, refl, ◌∙◌, sym}
use mathlib.Core.Logic.{◌⊎◌, inl, inr}
use mathlib.Core.Bool.{Bool, true, false, not, ◌&&◌, ◌||◌, false≢true}
use mathlib.Core.List.{List}
use native.Mathlib.Omega.{arith}
use lib.Dec.{eqb, ltb}
use lib.ListN.{get_or}
use lib.Bits.{bit_and}
use borrow.Author.Tests.{eq-eqb, ne_eqb, eqb-true, lt-ltb, ltb-true, ltb-false}
use Rattle.rules.specs.Bounded.{some_below}
use Rattle.rules.specs.Table.{Table, blocking, mask, is_task}
use Rattle.rules.specs.Accepted.{Accepted}
use Rattle.rules.specs.Preemption.{at_or_below, may_preempt}
use Rattle.rules.specs.Locks.{in_set, covers, masked, blocked}
use Rattle.rules.specs.Races.{race}
use Rattle.rules.proofs.Bools.{bool, and_left, and_right, and_both, or_cases, or_left, or_right}
use Rattle.rules.proofs.Bounded.{some_at}
use Rattle.rules.proofs.Nodes.{task_at, child_at}
use Rattle.matrix.specs.Words.{Marked, Gathered, Preempted, Blocking, Holders, Masks, Filled, HalfRows}
use Rattle.rows.proofs.Bits.{has_and, has_none}
use Rattle.matrix.proofs.Stores.{same_test}
use Rattle.matrix.proofs.Preempting.{some_from, at_task, at_itself}

eqb_swap : (a b : ℕ) → eqb a b ≡ eqb b a
eqb_swap a b = same_test (eqb a b) (eqb b a) (λ e. eq-eqb b a (sym (eqb-true a b e))) (λ e. eq-eqb a b (sym (eqb-true b a e)))

tests : (q r m a b : Bool) → (q ≡ true → m ≡ false) → ((r && m) && not (a || b)) ≡ ((((not q && r) && m) && not a) && not b)
tests true r true a b f = absurd (false≢true (sym (f refl)))
tests true true false a b f = refl
tests true false false a b f = refl
tests false true true true b f = refl
tests false true true false b f = refl
tests false true false a b f = refl
tests false false m a b f = refl

module _ (t : Table) (ok : Accepted t) (base n : ℕ) (b : ℕ) (bs : Blocking t t.locks b) (few : base + n ≤ t.accesses)
    (tasks sub same pre g₀ g : List ℕ)
    (mt : Marked 128 t.task_of base n tasks) (ms : Marked 64 t.resource_of base n same) (up : Gathered t.tree tasks sub)
    (down : Preempted t.tree sub pre) (hs : Holders t.lock_set base n b g₀) (mk : Masks t t.locks sub g₀ g)
  where
    module _ (j : ℕ) (l : j < 64) (h : j < n) where
      there : ltb j n ≡ true
      there = lt-ltb j n h

      ty : is_task t.tree (t.task_of (base + j)) ≡ true
      ty = ok.tasks (base + j) (omega arith)

      tells : (c : ℕ) → c < t.tree.nodes → in_set j (get_or sub c 0) ≡ at_or_below t.tree (t.task_of (base + j)) c
      tells = up.bits j (t.task_of (base + j)) (task_at t.tree (t.task_of (base + j)) ty).0 (λ c i. mt.bits c j l ∙ rw there)

      preempts : (u : ℕ) → is_task t.tree u ≡ true → in_set j (get_or pre u 0) ≡ may_preempt t.tree (t.task_of (base + j)) u
      preempts u tu =
          down.bits j (t.task_of (base + j)) l ty tells u (task_at t.tree u tu).0 ∙ at_task t.tree ok.tree (t.task_of (base + j)) u ty tu

      -- The word of a mask, and that of a blocking lock.
      of_mask : (k : ℕ) → k < t.locks → eqb (t.lock_kind k) mask ≡ true → in_set j (get_or g k 0) ≡ at_or_below t.tree (t.task_of (base + j)) (t.covered k)
      of_mask k i e =
          let c = (child_at t.tree (t.provider k) (t.covered k) (ok.masks k i (eqb-true (t.lock_kind k) mask e))).0 in
          rw (mk.words k, lt-ltb k t.locks i, e) (tells (t.covered k) c)

      of_blocking : (k : ℕ) → k < t.locks → k < 32 → eqb (t.lock_kind k) mask ≡ false
          → in_set j (get_or g k 0) ≡ (in_set k (t.lock_set (base + j)) && eqb (t.lock_kind k) blocking)
      of_blocking k i m e =
          rw (mk.words k, lt-ltb k t.locks i, e) (hs.bits k j l ∙ rw (there, bs.bits k m, lt-ltb k t.locks i))

      abbrev guarded : ℕ → Bool
      guarded s = some_below 32 (λ k. in_set k s && in_set j (get_or g k 0))

      safe : (s k : ℕ) → k < t.locks → k < 32 → in_set k s ≡ true → in_set j (get_or g k 0) ≡ true
          → (eqb (t.lock_kind k) mask ≡ true) ⊎ (eqb (t.lock_kind k) mask ≡ false)
          → (masked t s (t.task_of (base + j)) || blocked t s (t.lock_set (base + j))) ≡ true
      unfolding masked blocked covers
      safe s k i m p q (inl e) =
          or_left (masked t s (t.task_of (base + j))) _
          (some_from t.locks (λ k. in_set k s && covers t k (t.task_of (base + j))) k i (rw (p, e) (sym (of_mask k i e) ∙ q)))
      safe s k i m p q (inr e) =
          or_right (masked t s (t.task_of (base + j))) _
          (some_from t.locks (λ k. in_set k s && in_set k (t.lock_set (base + j)) && eqb (t.lock_kind k) blocking) k i
          (rw p (sym (of_blocking k i m e) ∙ q)))

      into : (s : ℕ) → s < 2 ^ t.locks → guarded s ≡ true → (masked t s (t.task_of (base + j)) || blocked t s (t.lock_set (base + j))) ≡ true
      into s w e =
          let r = some_at 32 (λ k. in_set k s && in_set j (get_or g k 0)) e in
          let p = and_left (in_set r.0 s) (in_set j (get_or g r.0 0)) r.2 in
          safe s r.0 (inside r.0 p) r.1 p (and_right (in_set r.0 s) (in_set j (get_or g r.0 0)) r.2) (bool (eqb (t.lock_kind r.0) mask))
        where
          inside : (k : ℕ) → in_set k s ≡ true → k < t.locks
          inside k p = side (bool (ltb k t.locks))
            where
              side : (ltb k t.locks ≡ true) ⊎ (ltb k t.locks ≡ false) → k < t.locks
              side (inl e) = ltb-true k t.locks e
              side (inr e) = absurd (false≢true (sym (has_none t.locks k s w (ltb-false k t.locks e)) ∙ p))

      by_mask : (s : ℕ) → masked t s (t.task_of (base + j)) ≡ true → guarded s ≡ true
      unfolding masked covers
      by_mask s e =
          let r = some_at t.locks (λ k. in_set k s && covers t k (t.task_of (base + j))) e in
          let q = and_right (in_set r.0 s) (covers t r.0 (t.task_of (base + j))) r.2 in
          let m = and_left (eqb (t.lock_kind r.0) mask) _ q in
          some_from 32 (λ k. in_set k s && in_set j (get_or g k 0)) r.0 (omega (arith, r.1, ok.few_locks))
          (and_both (in_set r.0 s) (in_set j (get_or g r.0 0)) (and_left (in_set r.0 s) _ r.2)
          (of_mask r.0 r.1 m ∙ and_right (eqb (t.lock_kind r.0) mask) _ q))

      by_blocking : (s : ℕ) → blocked t s (t.lock_set (base + j)) ≡ true → guarded s ≡ true
      unfolding blocked
      by_blocking s e =
          let r = some_at t.locks (λ k. in_set k s && in_set k (t.lock_set (base + j)) && eqb (t.lock_kind k) blocking) e in
          let k = r.0 in
          let p = and_left (in_set k s && in_set k (t.lock_set (base + j))) (eqb (t.lock_kind k) blocking) r.2 in
          let q = and_right (in_set k s && in_set k (t.lock_set (base + j))) (eqb (t.lock_kind k) blocking) r.2 in
          let h : k < 32 = omega (arith, r.1, ok.few_locks) in
          some_from 32 (λ k. in_set k s && in_set j (get_or g k 0)) k h
          (and_both (in_set k s) (in_set j (get_or g k 0)) (and_left (in_set k s) _ p)
          (of_blocking k r.1 h (ne_eqb (t.lock_kind k) mask (λ m. omega (arith, eqb-true (t.lock_kind k) blocking q)))
          ∙ and_both (in_set k (t.lock_set (base + j))) (eqb (t.lock_kind k) blocking) (and_right (in_set k s) _ p) q))

      guarded_is : (s : ℕ) → s < 2 ^ t.locks → guarded s ≡ (masked t s (t.task_of (base + j)) || blocked t s (t.lock_set (base + j)))
      guarded_is s w =
          same_test (guarded s) (masked t s (t.task_of (base + j)) || blocked t s (t.lock_set (base + j))) (into s w)
          (λ e. back (or_cases (masked t s (t.task_of (base + j))) (blocked t s (t.lock_set (base + j))) e))
        where
          back : (masked t s (t.task_of (base + j)) ≡ true) ⊎ (blocked t s (t.lock_set (base + j)) ≡ true) → guarded s ≡ true
          back (inl e) = by_mask s e
          back (inr e) = by_blocking s e

      -- No task preempts itself, so the tasks differ.
      race_is : (i : ℕ) → i < t.accesses
          → ((eqb (t.resource_of (base + j)) (t.resource_of i) && in_set j (get_or pre (t.task_of i) 0)) && not (guarded (t.lock_set i))) ≡ race t i (base + j)
      unfolding race
      race_is i m =
          let tu = ok.tasks i m in
          rw (eqb_swap (t.resource_of (base + j)) (t.resource_of i), preempts (t.task_of i) tu, guarded_is (t.lock_set i) (ok.sets i m))
          (tests (eqb (t.task_of i) (t.task_of (base + j))) (eqb (t.resource_of i) (t.resource_of (base + j)))
          (may_preempt t.tree (t.task_of (base + j)) (t.task_of i))
          (masked t (t.lock_set i) (t.task_of (base + j))) (blocked t (t.lock_set i) (t.lock_set (base + j)))
          (λ e. sym (at_itself t.tree ok.tree (t.task_of (base + j)) (t.task_of i) (sym (eqb-true (t.task_of i) (t.task_of (base + j)) e)) ty tu)))

    word_is : (i j w : ℕ) → i < t.accesses → j < 64
        → in_set j w ≡ (in_set j (bit_and (get_or same (t.resource_of i) 0) (get_or pre (t.task_of i) 0)) && not (some_below 32 (λ k. in_set k (t.lock_set i) && in_set j (get_or g k 0))))
        → in_set j w ≡ (ltb j n && race t i (base + j))
    word_is i j w m l e =
        e ∙ rw (has_and j (get_or same (t.resource_of i) 0) (get_or pre (t.task_of i) 0), ms.bits (t.resource_of i) j l) (side (bool (ltb j n)))
      where
        side : (ltb j n ≡ true) ⊎ (ltb j n ≡ false)
            → (((ltb j n && eqb (t.resource_of (base + j)) (t.resource_of i)) && in_set j (get_or pre (t.task_of i) 0)) && not (some_below 32 (λ k. in_set k (t.lock_set i) && in_set j (get_or g k 0))))
            ≡ (ltb j n && race t i (base + j))
        side (inl f) = rw f (race_is j l (ltb-true j n f) i m)
        side (inr f) = rw f

    pub rows_are : {rows₀ rows : List ℕ} → Filled t same pre g t.accesses rows₀ rows → HalfRows t base n rows₀ rows
    rows_are {rows₀} {rows} f =
        record { fits = λ i m. (f.words i m).fits; bits = λ i m j l. word_is i j (get_or rows i 0) m l ((f.words i m).bits j l); kept = f.kept }

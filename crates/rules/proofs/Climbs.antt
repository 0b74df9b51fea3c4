-- The laws of the climb in a rooted tree: a parent has a smaller number, so the number of a node is fuel enough to come to all that is above
-- it; and what is above one node stands in one line.
-- Assumes nothing.
use Prim.Native.Nat.{ℕ, zero, suc, ◌≤◌, ◌<◌}
use mathlib.Core.Path.{◌≡◌, refl, sym}
use mathlib.Core.Logic.{◌≢◌, ◌↔◌, ◌⊎◌, inl, inr}
use mathlib.Core.Bool.{true, ◌&&◌}
use native.Mathlib.Decide.{ℕ_discrete}
use native.Mathlib.Omega.{arith}
use lib.Dec.{ltb, eqb}
use borrow.Author.Tests.{eqb-true, eq-eqb, lt-ltb, ltb-true}
use Rattle.rules.specs.Table.{Tree, task, is_scheduler, is_child}
use Rattle.rules.specs.Accepted.{Rooted}
use Rattle.rules.specs.Preemption.{climbs_to, at_or_below}
use Rattle.rules.specs.Above.{Above, here, there}
use Rattle.rules.proofs.Bools.{or_cases, or_left, or_right, and_left, and_right}
use Rattle.rules.proofs.Nodes.{scheduler_from, child_at, child_from}

module _ (t : Tree) where
  -- What is below a node of the tree is in the tree.
  pub above_in : {a n : ℕ} → a < t.nodes → Above t a n → n < t.nodes
  above_in l here = l
  above_in l (there h z u) = h

  pub above_trans : {a b n : ℕ} → Above t a b → Above t b n → Above t a n
  above_trans u here = u
  above_trans u (there h z v) = there h z (above_trans u v)

  -- What is above n stands in one line.
  pub in_line : {a b n : ℕ} → Above t a n → Above t b n → Above t a b ⊎ Above t b a
  in_line u here = inl u
  in_line here (there h z v) = inr (there h z v)
  in_line (there h z u) (there h' z' v) = in_line u v

  -- What is above a child is the child, or above its parent.
  pub above_child : (p : ℕ) {q c : ℕ} → is_child t p c ≡ true → Above t q c → (q ≡ c) ⊎ Above t q p
  above_child p e here = inl refl
  above_child p e (there {n = c} h z u) = inr (rw (child_at t p c e).2 at u)

  -- What is below p is p, or at or below a child of p.
  pub below_child : {p n : ℕ} → Above t p n → (n ≡ p) ⊎ ((c : ℕ) × (is_child t p c ≡ true) × Above t c n)
  below_child here = inl refl
  below_child {p} (there {n = n} h z u) = side (below_child u)
    where
      side : (t.parent n ≡ p) ⊎ ((c : ℕ) × (is_child t p c ≡ true) × Above t c (t.parent n))
          → (n ≡ p) ⊎ ((c : ℕ) × (is_child t p c ≡ true) × Above t c n)
      side (inl q) = inr (n, child_from t p n h z q, here)
      side (inr r) = inr (r.0, r.1, there h z r.2)

  -- A child's parent is above all that the child is above.
  pub child_up : {p c n : ℕ} → is_child t p c ≡ true → Above t c n → Above t p n
  child_up {p} {c} e u = let k = child_at t p c e in above_trans (there k.0 k.1 (rw k.2 here)) u

module _ (t : Tree) (ok : Rooted t) where
  -- What is above n has a number no greater.
  pub above_le : {a n : ℕ} → Above t a n → a ≤ n
  above_le here = omega arith
  above_le (there {n = n} h z u) = omega (arith, above_le u, ok.lower n h z)

  pub child_lower : {p c : ℕ} → is_child t p c ≡ true → p < c
  child_lower {p} {c} e = let k = child_at t p c e in rw k.2 at (ok.lower c k.0 k.1)

  -- What has a child is in the tree and no task.
  pub parent_in : (p c : ℕ) → is_child t p c ≡ true → (p < t.nodes) × (t.kind p ≢ task)
  parent_in p c e =
      let k = child_at t p c e in
      (omega (arith, child_lower e), rw k.2 at (ok.inner c k.0 k.1))

  pub parent_scheduler : (p c : ℕ) → is_child t p c ≡ true → is_scheduler t p ≡ true
  parent_scheduler p c e = let i = parent_in p c e in scheduler_from t p i.0 i.1

  -- A child is not above its parent.
  pub child_not_above : {p c : ℕ} → is_child t p c ≡ true → Above t c p → ⊥
  child_not_above e u = omega (arith, above_le u, child_lower e)

  -- Of two siblings only one is above n.
  pub one_child : (p : ℕ) {a c n : ℕ} → is_child t p a ≡ true → is_child t p c ≡ true → Above t a n → Above t c n → a ≡ c
  one_child p {a} {c} ea ec u v = side (in_line t u v)
    where
      same : {a c : ℕ} → is_child t p a ≡ true → (a ≡ c) ⊎ Above t a p → a ≡ c
      same e (inl q) = q
      same e (inr w) = absurd (child_not_above e w)

      side : Above t a c ⊎ Above t c a → a ≡ c
      side (inl w) = same ea (above_child t p ec w)
      side (inr w) = sym (same ec (above_child t p ea w))

  -- A task that is above n is n.
  pub task_lowest : {a n : ℕ} → t.kind a ≡ task → Above t a n → a ≡ n
  task_lowest k here = refl
  task_lowest k (there {n = n} h z u) = absurd (ok.inner n h z (rw (← task_lowest k u) k))

  -- The root is above all.
  root_within : (f n : ℕ) → n ≤ f → n < t.nodes → Above t 0 n
  root_within zero n l h = let z : n ≡ 0 = omega arith in rw z here
  root_within (suc f) n l h = side (ℕ_discrete n 0) (root_within f (t.parent n))
    where
      side : Dec (n ≡ 0) → (t.parent n ≤ f → t.parent n < t.nodes → Above t 0 (t.parent n)) → Above t 0 n
      side (yes z) g = rw z here
      side (no z) g = let k = ok.lower n h z in there h z (g (omega arith) (omega arith))

  pub root_above : {n : ℕ} → n < t.nodes → Above t 0 n
  root_above {n} h = root_within n n (omega arith) h

  -- The climb comes to what is above n, and to nothing else.
  climb_above : (f a n : ℕ) → n < t.nodes → climbs_to f t a n ≡ true → Above t a n
  unfolding climbs_to
  climb_above zero a n h e = rw (eqb-true n a e) here
  climb_above (suc f) a n h e = side (or_cases (eqb n a) _ e) (climb_above f a (t.parent n))
    where
      side : (eqb n a ≡ true) ⊎ ((ltb (t.parent n) n && climbs_to f t a (t.parent n)) ≡ true)
          → (t.parent n < t.nodes → climbs_to f t a (t.parent n) ≡ true → Above t a (t.parent n)) → Above t a n
      side (inl q) g = rw (eqb-true n a q) here
      side (inr q) g =
          let l : t.parent n < n = ltb-true _ _ (and_left _ _ q) in
          there h (λ z. omega arith) (g (omega arith) (and_right (ltb (t.parent n) n) _ q))

  above_climb : (f a n : ℕ) → n ≤ f → Above t a n → climbs_to f t a n ≡ true
  unfolding climbs_to
  above_climb zero a n l here = eq-eqb a a refl
  above_climb zero a n l (there h z u) = absurd (z (omega arith))
  above_climb (suc f) a n l here = or_left (eqb a a) _ (eq-eqb a a refl)
  above_climb (suc f) a n l (there h z u) =
      let k = ok.lower n h z in
      or_right (eqb n a) _ (rw (lt-ltb (t.parent n) n k) (above_climb f a (t.parent n) (omega arith) u))

  pub below_above : (a n : ℕ) → n < t.nodes → at_or_below t n a ≡ true ↔ Above t a n
  unfolding at_or_below
  below_above a n h = (climb_above n a n h, above_climb n a n (omega arith))

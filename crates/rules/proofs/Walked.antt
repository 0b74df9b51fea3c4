-- What a part of the walk has done: the counter has come to a number, some tasks show the numbers of the closed form, and no node that showed
-- them has lost them. Such parts follow one another, child by child. What is no task shows 255, 255.
-- Assumes nothing.
use Prim.Native.Nat.{ℕ, zero, suc, ◌<◌}
use mathlib.Core.Path.{◌≡◌, refl, sym, ◌∙◌}
use mathlib.Core.Logic.{◌≢◌, ◌⊎◌, inl, inr}
use mathlib.Core.Bool.{true, false, cond, false≢true}
use native.Mathlib.Decide.{ℕ_discrete}
use native.Mathlib.Nat.{not-suc-le-zero}
use native.Mathlib.Omega.{arith}
use lib.Dec.{eqb}
use borrow.Author.Tests.{eq-eqb, ne_eqb}
use Rattle.rules.specs.Table.{Tree, task, is_task, is_child}
use Rattle.rules.specs.Priorities.{Walk, given, children}
use Rattle.rules.specs.Above.{Above}
use Rattle.rules.proofs.Bools.{bool}
use Rattle.rules.proofs.Nodes.{task_at, child_at}
use Rattle.rules.proofs.Climbs.{below_child}
use Rattle.rules.proofs.Widths.{first, ceiling}

-- What node d is to show.
unfoldable pub priority_of : Tree → ℕ → ℕ
priority_of t d = cond (is_task t d) (first t d) 255

unfoldable pub threshold_of : Tree → ℕ → ℕ
threshold_of t d = cond (is_task t d) (ceiling t d) 255

module _ (t : Tree) where
  -- Node d shows its numbers.
  unfoldable pub Right : ℕ → Walk → Type 0
  Right d w = (w.priority d ≡ priority_of t d) × (w.threshold d ≡ threshold_of t d)

  -- From w to v: the counter comes to a, the tasks in s show their numbers, and no node has lost them.
  pub record Walked (s : ℕ → Type 0) (w v : Walk) (a : ℕ) : Type 0 where
    pub counted : v.counter ≡ a
    pub done : (d : ℕ) → is_task t d ≡ true → s d → Right d v
    pub kept : (d : ℕ) → Right d w → Right d v

  pub counted_as : {s : ℕ → Type 0} {w v : Walk} {a b : ℕ} → a ≡ b → Walked s w v a → Walked s w v b
  counted_as e r = record { counted = r.counted ∙ e; done = r.done; kept = r.kept }

  -- What is done for some tasks is done for fewer.
  fewer : {s r : ℕ → Type 0} {w v : Walk} {a : ℕ} → ((d : ℕ) → is_task t d ≡ true → r d → s d) → Walked s w v a → Walked r w v a
  fewer f i = record { counted = i.counted; done = λ d td u. i.done d td (f d td u); kept = i.kept }

  -- One walk after the other.
  followed : {s r q : ℕ → Type 0} {w v y : Walk} {a b : ℕ} → ((d : ℕ) → q d → r d ⊎ s d) → Walked s w v a → Walked r v y b → Walked q w y b
  followed {s} {r} {y = y} f i j =
      record {
        counted = j.counted;
        done = λ d td u. side d td (f d u);
        kept = λ d x. j.kept d (i.kept d x);
      }
    where
      side : (d : ℕ) → is_task t d ≡ true → r d ⊎ s d → Right d y
      side d td (inl u) = j.done d td u
      side d td (inr u) = j.kept d (i.done d td u)

  -- d is at or below a child of p among the nodes below k.
  unfoldable pub UnderFirst : ℕ → ℕ → ℕ → Type 0
  UnderFirst p k d = (c : ℕ) × (c < k) × (is_child t p c ≡ true) × Above t c d

  under_last : (p k d : ℕ) → UnderFirst p (suc k) d → ((is_child t p k ≡ true) × Above t k d) ⊎ UnderFirst p k d
  unfolding UnderFirst
  under_last p k d u = side (ℕ_discrete u.0 k)
    where
      side : Dec (u.0 ≡ k) → ((is_child t p k ≡ true) × Above t k d) ⊎ ((c : ℕ) × (c < k) × (is_child t p c ≡ true) × Above t c d)
      side (yes q) = inl (rw q at u.2, rw q at u.3)
      side (no q) = inr (u.0, omega (arith, u.1), u.2, u.3)

  -- The children of p, one after the other: the counter is `a c` as the walk comes to node c.
  module _
      (p : ℕ) (g : ℕ → Walk → Walk) (w : Walk) (a : ℕ → ℕ) (start : w.counter ≡ a 0)
      (child : (c : ℕ) (v : Walk) → is_child t p c ≡ true → v.counter ≡ a c → Walked (Above t c) v (g c v) (a (suc c)))
      (other : (c : ℕ) → is_child t p c ≡ false → a (suc c) ≡ a c) where
    pub first_walked : (k : ℕ) → Walked (UnderFirst p k) w (children t p k g w) (a k)
    unfolding children
    first_walked zero =
        record { counted = start; done = λ d td u. absurd (unfold UnderFirst in not-suc-le-zero u.1); kept = λ d q. q }
    first_walked (suc k) = side (bool (is_child t p k)) (first_walked k)
      where
        v : Walk
        v = children t p k g w

        last_or_first : (d : ℕ) → ((is_child t p k ≡ true) × Above t k d) ⊎ UnderFirst p k d → Above t k d ⊎ UnderFirst p k d
        last_or_first d (inl u) = inl u.1
        last_or_first d (inr u) = inr u

        first_only : is_child t p k ≡ false → (d : ℕ) → ((is_child t p k ≡ true) × Above t k d) ⊎ UnderFirst p k d → UnderFirst p k d
        first_only q d (inl u) = absurd (false≢true (sym q ∙ u.0))
        first_only q d (inr u) = u

        side : (is_child t p k ≡ true) ⊎ (is_child t p k ≡ false) → Walked (UnderFirst p k) w v (a k)
            → Walked (UnderFirst p (suc k)) w (cond (is_child t p k) (g k v) v) (a (suc k))
        side (inl q) i = rw q (followed (λ d u. last_or_first d (under_last p k d u)) i (child k v q i.counted))
        side (inr q) i = rw q (counted_as (sym (other k q)) (fewer (λ d td u. first_only q d (under_last p k d u)) i))

  -- What the walk has done for the children of a scheduler it has done for the scheduler.
  pub gathered : (n : ℕ) {w v : Walk} {a : ℕ} → t.kind n ≢ task → Walked (UnderFirst n t.nodes) w v a → Walked (Above t n) w v a
  gathered n k i = fewer (λ d td u. side d td (below_child t u)) i
    where
      side : (d : ℕ) → is_task t d ≡ true → (d ≡ n) ⊎ ((c : ℕ) × (is_child t n c ≡ true) × Above t c d) → UnderFirst n t.nodes d
      side d td (inl q) = absurd (k (rw q at (task_at t d td).1))
      side d td (inr r) = (unfold UnderFirst in (r.0, (child_at t n r.0 r.1).0, r.1, r.2))

  -- A task takes its numbers.
  pub given_right : (n h : ℕ) (w : Walk) → is_task t n ≡ true → w.counter ≡ first t n → h ≡ ceiling t n → Right n (given n h w)
  unfolding Right given priority_of threshold_of
  given_right n h w tn e k = rw (eq-eqb n n refl, tn) (e, k)

  pub given_kept : (n h : ℕ) (w : Walk) → Right n (given n h w) → (d : ℕ) → Right d w → Right d (given n h w)
  unfolding Right given
  given_kept n h w r d q = side (ℕ_discrete d n)
    where
      side : Dec (d ≡ n) → (cond (eqb d n) w.counter (w.priority d) ≡ priority_of t d) × (cond (eqb d n) h (w.threshold d) ≡ threshold_of t d)
      side (yes e) = rw e r
      side (no e) = rw (ne_eqb d n e) q

-- The nearest common scheduler is what its name says. The climb from u stops at the first node that x lies below too, and whatever is above
-- both stands in line with it; one child of it holds x and another holds u, since a child that held both would have stopped the climb.
-- Assumes nothing.
use Prim.Native.Nat.{ℕ, zero, suc, ◌≤◌, ◌<◌}
use mathlib.Core.Path.{◌≡◌, refl, sym, ◌∙◌}
use mathlib.Core.Logic.{◌≢◌, ◌⊎◌, inl, inr}
use mathlib.Core.Bool.{true, false, false≢true}
use native.Mathlib.Decide.{ℕ_discrete}
use native.Mathlib.Omega.{arith}
use borrow.Author.Tests.{eq-eqb, ne_eqb, lt-ltb}
use Rattle.rules.specs.Table.{Tree, is_task, is_child}
use Rattle.rules.specs.Accepted.{Rooted}
use Rattle.rules.specs.Preemption.{at_or_below, nearest_above, nearest_common, climbs_under, child_above}
use Rattle.rules.specs.Above.{Above, here, there, Nearest}
use Rattle.rules.proofs.Bools.{bool}
use Rattle.rules.proofs.Nodes.{task_at, child_from}
use Rattle.rules.proofs.Climbs.{above_le, parent_scheduler, child_not_above, task_lowest, root_above, below_above}

-- One step of each climb.
module _ (t : Tree) (f n : ℕ) (k : t.parent n < n) where
  under_stops : (p : ℕ) → t.parent n ≡ p → climbs_under (suc f) t p n ≡ n
  unfolding climbs_under
  under_stops p q = rw (lt-ltb (t.parent n) n k, eq-eqb (t.parent n) p q)

  under_goes_on : (p : ℕ) → t.parent n ≢ p → climbs_under (suc f) t p n ≡ climbs_under f t p (t.parent n)
  unfolding climbs_under
  under_goes_on p q = rw (lt-ltb (t.parent n) n k, ne_eqb (t.parent n) p q)

  nearest_stops : (x : ℕ) → at_or_below t x (t.parent n) ≡ true → nearest_above (suc f) t x n ≡ t.parent n
  unfolding nearest_above
  nearest_stops x e = rw (lt-ltb (t.parent n) n k, e)

  nearest_goes_on : (x : ℕ) → at_or_below t x (t.parent n) ≡ false → nearest_above (suc f) t x n ≡ nearest_above f t x (t.parent n)
  unfolding nearest_above
  nearest_goes_on x e = rw (lt-ltb (t.parent n) n k, e)

module _ (t : Tree) (ok : Rooted t) where
  -- The climb from n that stops under p ends at a child of p.
  under_child : (p f n : ℕ) → n ≤ f → p ≢ n → Above t p n
      → (is_child t p (climbs_under f t p n) ≡ true) × Above t (climbs_under f t p n) n
  under_child p f n l d here = absurd (d refl)
  under_child p zero n l d (there h z u) = absurd (z (omega arith))
  under_child p (suc f) n l d (there h z u) =
      let k = ok.lower n h z in
      side k (ℕ_discrete (t.parent n) p) (λ e. under_child p f (t.parent n) (omega arith) e u)
    where
      side : t.parent n < n → Dec (t.parent n ≡ p)
          → (p ≢ t.parent n → (is_child t p (climbs_under f t p (t.parent n)) ≡ true) × Above t (climbs_under f t p (t.parent n)) (t.parent n))
          → (is_child t p (climbs_under (suc f) t p n) ≡ true) × Above t (climbs_under (suc f) t p n) n
      side k (yes q) g = rw (under_stops t f n k p q) (child_from t p n h z q, here)
      side k (no q) g = let r = g (λ e. q (sym e)) in rw (under_goes_on t f n k p q) (r.0, there h z r.1)

  child_above_lem : (p n : ℕ) → p ≢ n → Above t p n → (is_child t p (child_above t p n) ≡ true) × Above t (child_above t p n) n
  unfolding child_above
  child_above_lem p n = under_child p n n (omega arith)

  -- p is above x and n, but is not n, and what is above both is above p.
  record Common (x n p : ℕ) : Type 0 where
    above_x : Above t p x
    above_n : Above t p n
    not_n : p ≢ n
    lowest : (q : ℕ) → Above t q x → Above t q n → Above t q p

  -- The climb from n, which x is not below, stops at the first node that x is below.
  first_common : (f x n : ℕ) → n ≤ f → x < t.nodes → n < t.nodes → (Above t n x → ⊥) → Common x n (nearest_above f t x n)
  first_common zero x n l hx h d = absurd (d (let z : n ≡ 0 = omega arith in rw z (root_above t ok hx)))
  first_common (suc f) x n l hx h d =
      let k = ok.lower n h z in
      side k (bool (at_or_below t x (t.parent n))) (λ e.
      first_common f x (t.parent n) (omega arith) hx (omega arith) (λ v.
      false≢true (sym e ∙ (below_above t ok (t.parent n) x hx).1 v)))
    where
      z : n ≢ 0
      z e = d (rw e (root_above t ok hx))

      higher : (q : ℕ) → Above t q x → Above t q n → Above t q (t.parent n)
      higher q v here = absurd (d v)
      higher q v (there h z w) = w

      side : t.parent n < n → (at_or_below t x (t.parent n) ≡ true) ⊎ (at_or_below t x (t.parent n) ≡ false)
          → (at_or_below t x (t.parent n) ≡ false → Common x (t.parent n) (nearest_above f t x (t.parent n)))
          → Common x n (nearest_above (suc f) t x n)
      side k (inl e) g =
          rw (nearest_stops t f n k x e) (record {
            above_x = (below_above t ok (t.parent n) x hx).0 e;
            above_n = there h z here;
            not_n = λ q. omega arith;
            lowest = higher;
          })
      side k (inr e) g =
          let r = g e in
          rw (nearest_goes_on t f n k x e) (record {
            above_x = r.above_x;
            above_n = there h z r.above_n;
            not_n = λ q. omega (arith, above_le t ok r.above_n);
            lowest = λ q v w. r.lowest q v (higher q v w);
          })

  common : (x u : ℕ) → x < t.nodes → u < t.nodes → (Above t u x → ⊥) → Common x u (nearest_common t x u)
  unfolding nearest_common
  common x u hx hu d = first_common u x u (omega arith) hx hu d

  -- For any two nodes of which neither is above the other.
  pub apart : (x u : ℕ) → x < t.nodes → u < t.nodes → (Above t u x → ⊥) → (Above t x u → ⊥)
      → Nearest t x u (nearest_common t x u) (child_above t (nearest_common t x u) x) (child_above t (nearest_common t x u) u)
  apart x u hx hu d d' =
      record {
        scheduler = parent_scheduler t ok p (child_above t p x) a.0;
        above_x = r.above_x;
        above_u = r.above_n;
        not_x = not_x;
        not_u = r.not_n;
        lowest = r.lowest;
        child_x = a.0;
        child_u = c.0;
        holds_x = a.1;
        holds_u = c.1;
        differ = λ q. child_not_above t ok a.0 (r.lowest _ a.1 (rw (← q) at c.1));
      }
    where
      p : ℕ
      p = nearest_common t x u

      r : Common x u p
      r = common x u hx hu d

      not_x : p ≢ x
      not_x q = d' (rw q at r.above_n)

      a : (is_child t p (child_above t p x) ≡ true) × Above t (child_above t p x) x
      a = child_above_lem p x not_x r.above_x

      c : (is_child t p (child_above t p u) ≡ true) × Above t (child_above t p u) u
      c = child_above_lem p u r.not_n r.above_n

  -- Of two different tasks neither is above the other.
  pub nearest : (x u : ℕ) → is_task t x ≡ true → is_task t u ≡ true → x ≢ u
      → Nearest t x u (nearest_common t x u) (child_above t (nearest_common t x u) x) (child_above t (nearest_common t x u) u)
  nearest x u tx tu d =
      let kx = task_at t x tx in
      let ku = task_at t u tu in
      apart x u kx.0 ku.0 (λ v. d (sym (task_lowest t ok ku.1 v))) (λ v. d (task_lowest t ok kx.1 v))

  -- Two nodes have no two nearest common schedulers: each would be above the other.
  pub nearest_unique : {x u p a c q b d : ℕ} → Nearest t x u p a c → Nearest t x u q b d → p ≡ q
  nearest_unique r s =
      omega (arith, above_le t ok (r.lowest _ s.above_x s.above_u), above_le t ok (s.lowest _ r.above_x r.above_u))

  pub nearest_swap : {x u p a c : ℕ} → Nearest t x u p a c → Nearest t u x p c a
  nearest_swap r =
      record {
        scheduler = r.scheduler;
        above_x = r.above_u;
        above_u = r.above_x;
        not_x = r.not_u;
        not_u = r.not_x;
        lowest = λ q v w. r.lowest q w v;
        child_x = r.child_u;
        child_u = r.child_x;
        holds_x = r.holds_u;
        holds_u = r.holds_x;
        differ = λ e. r.differ (sym e);
      }

  pub nearest_symmetric : (x u : ℕ) → is_task t x ≡ true → is_task t u ≡ true → x ≢ u → nearest_common t x u ≡ nearest_common t u x
  nearest_symmetric x u tx tu d = nearest_unique (nearest x u tx tu d) (nearest_swap (nearest u x tu tx (λ e. d (sym e))))

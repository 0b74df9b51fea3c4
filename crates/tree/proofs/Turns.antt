-- One turn of each climb: it ends at the node, or what is left of it gives the whole.
-- Assumes nothing.
use Prim.Native.Nat.{ℕ, zero, suc, ◌≤◌, ◌<◌}
use mathlib.Core.Path.{◌≡◌, refl}
use mathlib.Core.Logic.{◌≢◌}
use mathlib.Core.Bool.{Bool, true, false, ◌||◌}
use lib.Dec.{eqb}
use borrow.Author.Tests.{eq-eqb, ne_eqb, lt-ltb, le-ltb}
use Rattle.rules.specs.Table.{Tree}
use Rattle.rules.specs.Preemption.{climbs_to, at_or_below, nearest_above, nearest_common, climbs_under, child_above}
use Rattle.tree.proofs.Fuel.{one_more, rest}

or_false : (b : Bool) → (b || false) ≡ b
or_false true = refl
or_false false = refl

-- Does the climb from n come to a?
module _ (t : Tree) (a : ℕ) where
  to_top : (f n : ℕ) → n ≤ t.parent n → climbs_to (suc f) t a n ≡ climbs_to zero t a n
  unfolding climbs_to
  to_top f n h = rw (le-ltb (t.parent n) n h) (or_false (eqb n a))

  to_step : (f g n : ℕ) → t.parent n < n → climbs_to f t a (t.parent n) ≡ climbs_to g t a (t.parent n)
      → climbs_to (suc f) t a n ≡ climbs_to (suc g) t a n
  unfolding climbs_to
  to_step f g n h e = rw e

  to_more : (n : ℕ) → climbs_to n t a n ≡ climbs_to (suc n) t a n
  to_more = one_more t (λ f n. climbs_to f t a n) to_top to_step

  to_rest : (n : ℕ) → t.parent n < n → climbs_to n t a (t.parent n) ≡ climbs_to (t.parent n) t a (t.parent n)
  to_rest = rest t (λ f n. climbs_to f t a n) to_top to_step

  pub below_here : (n : ℕ) → n ≡ a → true ≡ at_or_below t n a
  unfolding at_or_below
  below_here n e = rw (to_more n) (unfold climbs_to in rw (eq-eqb n a e))

  pub below_top : (n : ℕ) → n ≢ a → n ≤ t.parent n → false ≡ at_or_below t n a
  unfolding at_or_below
  below_top n e h = rw (to_more n, to_top n n h) (unfold climbs_to in rw (ne_eqb n a e))

  pub below_up : (n : ℕ) → n ≢ a → t.parent n < n → at_or_below t (t.parent n) a ≡ at_or_below t n a
  unfolding at_or_below
  below_up n e h = rw (to_more n) (unfold climbs_to in rw (ne_eqb n a e, lt-ltb (t.parent n) n h, to_rest n h))

-- The first node above u that x lies below.
module _ (t : Tree) (x : ℕ) where
  near_top : (f u : ℕ) → u ≤ t.parent u → nearest_above (suc f) t x u ≡ nearest_above zero t x u
  unfolding nearest_above
  near_top f u h = rw (le-ltb (t.parent u) u h)

  near_step : (f g u : ℕ) → t.parent u < u → nearest_above f t x (t.parent u) ≡ nearest_above g t x (t.parent u)
      → nearest_above (suc f) t x u ≡ nearest_above (suc g) t x u
  unfolding nearest_above
  near_step f g u h e = rw e

  near_more : (u : ℕ) → nearest_above u t x u ≡ nearest_above (suc u) t x u
  near_more = one_more t (λ f u. nearest_above f t x u) near_top near_step

  near_rest : (u : ℕ) → t.parent u < u → nearest_above u t x (t.parent u) ≡ nearest_above (t.parent u) t x (t.parent u)
  near_rest = rest t (λ f u. nearest_above f t x u) near_top near_step

  pub nearest_none : (u : ℕ) → u ≤ t.parent u → 0 ≡ nearest_common t x u
  unfolding nearest_common
  nearest_none u h = rw (near_more u, near_top u u h) (unfold nearest_above in refl)

  pub nearest_here : (u : ℕ) → t.parent u < u → at_or_below t x (t.parent u) ≡ true → t.parent u ≡ nearest_common t x u
  unfolding nearest_common
  nearest_here u h e = rw (near_more u) (unfold nearest_above in rw (lt-ltb (t.parent u) u h, e))

  pub nearest_up : (u : ℕ) → t.parent u < u → at_or_below t x (t.parent u) ≡ false → nearest_common t x (t.parent u) ≡ nearest_common t x u
  unfolding nearest_common
  nearest_up u h e = rw (near_more u) (unfold nearest_above in rw (lt-ltb (t.parent u) u h, e, near_rest u h))

-- The first node on the climb from n whose parent is p.
module _ (t : Tree) (p : ℕ) where
  under_top : (f n : ℕ) → n ≤ t.parent n → climbs_under (suc f) t p n ≡ climbs_under zero t p n
  unfolding climbs_under
  under_top f n h = rw (le-ltb (t.parent n) n h)

  under_step : (f g n : ℕ) → t.parent n < n → climbs_under f t p (t.parent n) ≡ climbs_under g t p (t.parent n)
      → climbs_under (suc f) t p n ≡ climbs_under (suc g) t p n
  unfolding climbs_under
  under_step f g n h e = rw e

  under_more : (n : ℕ) → climbs_under n t p n ≡ climbs_under (suc n) t p n
  under_more = one_more t (λ f n. climbs_under f t p n) under_top under_step

  under_rest : (n : ℕ) → t.parent n < n → climbs_under n t p (t.parent n) ≡ climbs_under (t.parent n) t p (t.parent n)
  under_rest = rest t (λ f n. climbs_under f t p n) under_top under_step

  pub child_top : (n : ℕ) → n ≤ t.parent n → n ≡ child_above t p n
  unfolding child_above
  child_top n h = rw (under_more n, under_top n n h) (unfold climbs_under in refl)

  pub child_here : (n : ℕ) → t.parent n < n → t.parent n ≡ p → n ≡ child_above t p n
  unfolding child_above
  child_here n h e = rw (under_more n) (unfold climbs_under in rw (lt-ltb (t.parent n) n h, eq-eqb (t.parent n) p e))

  pub child_up : (n : ℕ) → t.parent n < n → t.parent n ≢ p → child_above t p (t.parent n) ≡ child_above t p n
  unfolding child_above
  child_up n h e = rw (under_more n) (unfold climbs_under in rw (lt-ltb (t.parent n) n h, ne_eqb (t.parent n) p e, under_rest n h))

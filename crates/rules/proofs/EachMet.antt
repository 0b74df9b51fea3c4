-- If numbers that pass a test have different values, all below their own count, then each number below that count is met as a value: there are
-- as many values as numbers, and no room for one that is left out.
-- Assumes nothing.
use Prim.Native.Nat.{ℕ, zero, suc, ◌+◌, ◌≤◌, ◌<◌}
use mathlib.Core.Path.{◌≡◌, refl, sym, ◌∙◌}
use mathlib.Core.Logic.{◌⊎◌, inl, inr}
use mathlib.Core.Bool.{Bool, true, false, ◌&&◌, cond}
use native.Mathlib.Decide.{ℕ_discrete}
use native.Mathlib.Nat.{not-suc-le-zero}
use native.Mathlib.Omega.{arith}
use lib.Dec.{eqb}
use borrow.Author.Tests.{eqb-true, eq-eqb}
use Rattle.rules.specs.Bounded.{some_below}
use Rattle.rules.specs.Counting.{count_below}
use Rattle.rules.proofs.Bools.{bool, and_left, and_right, and_both, or_left, or_right}
use Rattle.rules.proofs.Bounded.{some_at}
use Rattle.rules.proofs.Counting.{count_parts, count_mono, count_some, count_le}

-- What is counted as often as it can be passes everywhere.
count_full : (n : ℕ) (p : ℕ → Bool) → n ≤ count_below n p → (k : ℕ) → k < n → p k ≡ true
unfolding count_below
count_full zero p h k l = absurd (not-suc-le-zero l)
count_full (suc n) p h k l = side (ℕ_discrete k n) (bool (p n)) (count_full n p)
  where
    side : Dec (k ≡ n) → (p n ≡ true) ⊎ (p n ≡ false) → (n ≤ count_below n p → (k : ℕ) → k < n → p k ≡ true) → p k ≡ true
    side d (inr e) g = absurd (omega (arith, rw e at h, count_le n p))
    side (yes q) (inl e) g = rw q e
    side (no q) (inl e) g = g (omega (arith, rw e at h)) k (omega arith)

-- The numbers that pass p have different values of f, all below m.
module _ (p : ℕ → Bool) (f : ℕ → ℕ) (m : ℕ) (low : (d : ℕ) → p d ≡ true → f d < m)
    (apart : (d e : ℕ) → p d ≡ true → p e ≡ true → f d ≡ f e → d ≡ e) where
  -- k is the value of a number below n that passes.
  met : ℕ → ℕ → Bool
  met n k = some_below n (λ d. p d && eqb (f d) k)

  met_still : (n k : ℕ) → met n k ≡ true → met (suc n) k ≡ true
  unfolding met some_below
  met_still n k e = or_left _ _ e

  met_last : (n k : ℕ) → p n ≡ true → eqb (f n) k ≡ true → met (suc n) k ≡ true
  unfolding met some_below
  met_last n k e q = or_right (some_below n (λ d. p d && eqb (f d) k)) _ (and_both _ _ e q)

  met_at : (n k : ℕ) → met n k ≡ true → (d : ℕ) × (d < n) × (p d ≡ true) × (f d ≡ k)
  unfolding met
  met_at n k e =
      let r = some_at n (λ d. p d && eqb (f d) k) e in
      (r.0, r.1, and_left _ _ r.2, eqb-true _ _ (and_right (p r.0) _ r.2))

  -- There are as many values as numbers.
  met_often : (n : ℕ) → count_below n p ≤ count_below m (met n)
  unfolding count_below
  met_often zero = omega arith
  met_often (suc n) = side (bool (p n)) (met_often n)
    where
      side : (p n ≡ true) ⊎ (p n ≡ false) → count_below n p ≤ count_below m (met n) → count_below n p + cond (p n) 1 0 ≤ count_below m (met (suc n))
      side (inl e) i =
          rw e (omega (
            arith,
            count_some m (f n) (λ k. eqb (f n) k) (low n e) (eq-eqb (f n) (f n) refl),
            count_parts m (met n) (λ k. eqb (f n) k) (met (suc n)) (met_still n) (λ k. met_last n k e)
                (λ k a b.
                let r = met_at n k a in
                omega (arith, r.1, apart r.0 n r.2 e (r.3 ∙ sym (eqb-true _ _ b)))),
          ))
      side (inr e) i = rw e (omega (arith, count_mono m (met n) (met (suc n)) (met_still n)))

  pub each_met : (n : ℕ) → m ≡ count_below n p → (k : ℕ) → k < m → (d : ℕ) × (p d ≡ true) × (f d ≡ k)
  each_met n e k l =
      let r = met_at n k (count_full m (met n) (omega (arith, met_often n)) k l) in
      (r.0, r.2, r.3)

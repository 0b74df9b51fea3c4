-- The laws of counting: a part has no more than the whole, two parts that share nothing have no more together, what passes once is counted,
-- and no more is counted than there are numbers.
-- Assumes nothing.
use Prim.Native.Nat.{ℕ, zero, suc, ◌+◌, ◌≤◌, ◌<◌}
use mathlib.Core.Path.{◌≡◌}
use mathlib.Core.Logic.{◌⊎◌, inl, inr}
use mathlib.Core.Bool.{Bool, true, false, cond, false≢true}
use native.Mathlib.Decide.{ℕ_discrete}
use native.Mathlib.Nat.{not-suc-le-zero}
use native.Mathlib.Omega.{arith}
use Rattle.rules.specs.Counting.{count_below}
use Rattle.rules.proofs.Bools.{bool}

-- Each of two parts, which share nothing, lies within the whole.
pub count_parts : (n : ℕ) (p q r : ℕ → Bool)
    → ((k : ℕ) → p k ≡ true → r k ≡ true) → ((k : ℕ) → q k ≡ true → r k ≡ true) → ((k : ℕ) → p k ≡ true → q k ≡ true → ⊥)
    → count_below n p + count_below n q ≤ count_below n r
unfolding count_below
count_parts zero p q r f g d = omega arith
count_parts (suc n) p q r f g d = side (bool (p n)) (bool (q n)) (count_parts n p q r f g d)
  where
    side : (p n ≡ true) ⊎ (p n ≡ false) → (q n ≡ true) ⊎ (q n ≡ false)
        → count_below n p + count_below n q ≤ count_below n r
        → count_below n p + cond (p n) 1 0 + (count_below n q + cond (q n) 1 0) ≤ count_below n r + cond (r n) 1 0
    side (inl a) (inl b) i = absurd (d n a b)
    side (inl a) (inr b) i = rw (a, b, f n a) (omega arith)
    side (inr a) (inl b) i = rw (a, b, g n b) (omega arith)
    side (inr a) (inr b) i = rw (a, b) (omega arith)

pub count_mono : (n : ℕ) (p r : ℕ → Bool) → ((k : ℕ) → p k ≡ true → r k ≡ true) → count_below n p ≤ count_below n r
count_mono n p r f =
    omega (arith, count_parts n p (λ k. false) r f (λ k e. absurd (false≢true e)) (λ k a e. false≢true e))

pub count_some : (n k : ℕ) (p : ℕ → Bool) → k < n → p k ≡ true → 1 ≤ count_below n p
unfolding count_below
count_some zero k p h e = absurd (not-suc-le-zero h)
count_some (suc n) k p h e = side (ℕ_discrete k n) (count_some n k p)
  where
    side : Dec (k ≡ n) → (k < n → p k ≡ true → 1 ≤ count_below n p) → 1 ≤ count_below n p + cond (p n) 1 0
    side (yes q) g = rw (← q, e) (omega arith)
    side (no q) g = omega (arith, g (omega arith) e)

pub count_le : (n : ℕ) (p : ℕ → Bool) → count_below n p ≤ n
unfolding count_below
count_le zero p = omega arith
count_le (suc n) p = side (bool (p n)) (count_le n p)
  where
    side : (p n ≡ true) ⊎ (p n ≡ false) → count_below n p ≤ n → count_below n p + cond (p n) 1 0 ≤ suc n
    side (inl e) i = rw e (omega arith)
    side (inr e) i = rw e (omega arith)

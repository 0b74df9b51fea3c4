-- Sums over the numbers below a bound, built upwards, and their laws.
-- Assumes nothing.
use Prim.Native.Nat.{ℕ, zero, suc, ◌+◌, ◌≤◌, ◌<◌}
use mathlib.Core.Path.{◌≡◌, refl}
use native.Mathlib.Decide.{ℕ_discrete}
use native.Mathlib.Omega.{arith}

-- f 0 + .. + f (n - 1).
unfoldable pub sum_below : ℕ → (ℕ → ℕ) → ℕ
sum_below zero f = 0
sum_below (suc n) f = sum_below n f + f n

pub sum_cong : (n : ℕ) (f g : ℕ → ℕ) → ((k : ℕ) → k < n → f k ≡ g k) → sum_below n f ≡ sum_below n g
unfolding sum_below
sum_cong zero f g h = refl
sum_cong (suc n) f g h = rw (sum_cong n f g (λ k l. h k (omega arith)), h n (omega arith))

pub sum_none : (n : ℕ) (f : ℕ → ℕ) → ((k : ℕ) → k < n → f k ≡ 0) → sum_below n f ≡ 0
unfolding sum_below
sum_none zero f h = refl
sum_none (suc n) f h = rw (sum_none n f (λ k l. h k (omega arith)), h n (omega arith))

sum_mono : (m n : ℕ) (f : ℕ → ℕ) → m ≤ n → sum_below m f ≤ sum_below n f
unfolding sum_below
sum_mono m zero f h = let q : m ≡ 0 = omega arith in rw q (omega arith)
sum_mono m (suc n) f h = side (ℕ_discrete m (suc n)) (sum_mono m n f)
  where
    side : Dec (m ≡ suc n) → (m ≤ n → sum_below m f ≤ sum_below n f) → sum_below m f ≤ sum_below n f + f n
    side (yes q) g = rw q (omega arith)
    side (no q) g = omega (arith, g (omega arith))

-- A part and all before it are no more than the whole.
pub sum_part : (c n : ℕ) (f : ℕ → ℕ) → c < n → sum_below c f + f c ≤ sum_below n f
sum_part c n f h = (unfold sum_below in sum_mono (suc c) n f h)

-- Sets as numbers: a set has no bit k or above exactly when it is below 2 to the k.
-- Assumes nothing.
use Prim.Native.Nat.{ℕ, ◌^◌, ◌/◌, ◌≤◌, ◌<◌}
use mathlib.Core.Path.{◌≡◌, refl}
use mathlib.Core.Bool.{Bool, true, false}
use native.Mathlib.Nat.{div-lt_iff_lt-mul, one-mul, pow-le-pow_right}
use lib.Pow.{pow_pos}
use native.Mathlib.Omega.{arith}
use lib.Dec.{eqb, ltb}
use borrow.Author.Tests.{eq-eqb, ne_eqb, ltb-true, ltb-false, lt-ltb}

pub no_bit_above : (n k : ℕ) → eqb (n / 2 ^ k) 0 ≡ ltb n (2 ^ k)
no_bit_above n k = side (ltb n (2 ^ k)) refl
  where
    below_one : {m : ℕ} → m < 1 → m ≡ 0
    below_one h = omega arith

    side : (b : Bool) → ltb n (2 ^ k) ≡ b → eqb (n / 2 ^ k) 0 ≡ b
    side true e = eq-eqb (n / 2 ^ k) 0 (below_one ((div-lt_iff_lt-mul (pow_pos k)).1 (rw one-mul (ltb-true n (2 ^ k) e))))
    side false e = ne_eqb (n / 2 ^ k) 0 (λ h. omega (arith, ltb-false n (2 ^ k) e, rw one-mul at ((div-lt_iff_lt-mul {k = 2 ^ k} {x = n} {y = 1} (pow_pos k)).0 (omega arith))))

-- A set of w bits has no bit w or above.
pub all_below_lem : (n w k : ℕ) → n < 2 ^ w → w ≤ k → ltb n (2 ^ k) ≡ true
all_below_lem n w k h l = lt-ltb n (2 ^ k) (omega (arith, pow-le-pow_right {n = 2} (omega arith) l))

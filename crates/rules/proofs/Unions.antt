-- A lock is in the union of two sets exactly when it is in one of them, and in the empty set is none.
-- Assumes nothing.
use Prim.Native.Nat.{ℕ, ◌^◌, ◌/◌, ◌%◌, max}
use mathlib.Core.Path.{◌≡◌, refl}
use mathlib.Core.Bool.{Bool, true, false, ◌||◌}
use native.Mathlib.Omega.{arith}
use native.Mathlib.Nat.{zero-div}
use lib.Dec.{eqb}
use lib.Bits.{bit_or, or_step, or_shr}
use borrow.Author.Tests.{eq-eqb, ne_eqb, eqb-true, eqb-false}
use Rattle.rules.specs.Locks.{in_set}

or_bit : (x y : ℕ) → eqb (max (x % 2) (y % 2)) 1 ≡ (eqb (x % 2) 1 || eqb (y % 2) 1)
or_bit x y = side (eqb (x % 2) 1) (eqb (y % 2) 1) refl refl
  where
    side : (p q : Bool) → eqb (x % 2) 1 ≡ p → eqb (y % 2) 1 ≡ q → eqb (max (x % 2) (y % 2)) 1 ≡ (p || q)
    side true q e f = eq-eqb (max (x % 2) (y % 2)) 1 (omega (arith, eqb-true (x % 2) 1 e))
    side false true e f = eq-eqb (max (x % 2) (y % 2)) 1 (omega (arith, eqb-true (y % 2) 1 f))
    side false false e f =
        let m = eqb-false (x % 2) 1 e in
        let n = eqb-false (y % 2) 1 f in
        ne_eqb (max (x % 2) (y % 2)) 1 (λ h. m (omega arith))

pub has_or : (k a b : ℕ) → in_set k (bit_or a b) ≡ (in_set k a || in_set k b)
unfolding in_set
has_or k a b =
    let e : bit_or a b / 2 ^ k % 2 ≡ max (a / 2 ^ k % 2) (b / 2 ^ k % 2) = rw or_shr (omega (arith, or_step (a / 2 ^ k) (b / 2 ^ k))) in
    rw e (or_bit (a / 2 ^ k) (b / 2 ^ k))

pub has_zero : (k : ℕ) → in_set k 0 ≡ false
unfolding in_set
has_zero k = rw zero-div

-- The bits of a number, by `in_set`: those of and, or, not, of a power of two, of the number without its lowest bit, and that a number is
-- its bits.
-- Assumes nothing.
use Prim.Native.Nat.{ℕ, zero, suc, ◌+◌, ◌*◌, ◌-◌, ◌^◌, ◌/◌, ◌%◌, ◌<◌, ◌≤◌, min}
use mathlib.Core.Path.{◌≡◌, refl, ap, ◌∙◌, sym}
use mathlib.Core.Logic.{◌≢◌}
use mathlib.Core.Bool.{Bool, true, false, not, ◌&&◌}
use native.Mathlib.Decide.{ℕ_discrete}
use native.Mathlib.Omega.{arith}
use native.Mathlib.Nat.{pow-suc}
use lib.Dec.{eqb}
use lib.Pow.{shr-shr}
use lib.Bits.{bit_and, and_step, and_shr, and_self}
use lib.Count.{count_trailing_zeros, under}
use borrow.Author.Tests.{eq-eqb, ne_eqb, eqb-true, eqb-false}
use Rattle.rules.specs.Locks.{in_set}
pub use Rattle.rules.proofs.Unions.{has_or, has_zero}

-- A bit is 0 or 1.
and_bit : (x y : ℕ) → eqb (min (x % 2) (y % 2)) 1 ≡ (eqb (x % 2) 1 && eqb (y % 2) 1)
and_bit x y = side (eqb (x % 2) 1) (eqb (y % 2) 1) refl refl
  where
    side : (p q : Bool) → eqb (x % 2) 1 ≡ p → eqb (y % 2) 1 ≡ q → eqb (min (x % 2) (y % 2)) 1 ≡ (p && q)
    side true true e f = eq-eqb (min (x % 2) (y % 2)) 1 (omega (arith, eqb-true (x % 2) 1 e, eqb-true (y % 2) 1 f))
    side true false e f = ne_eqb (min (x % 2) (y % 2)) 1 (λ h. eqb-false (y % 2) 1 f (omega arith))
    side false q e f = ne_eqb (min (x % 2) (y % 2)) 1 (λ h. eqb-false (x % 2) 1 e (omega arith))

not_bit : (x y : ℕ) → y % 2 ≡ 1 - x % 2 → eqb (y % 2) 1 ≡ not (eqb (x % 2) 1)
not_bit x y e = side (eqb (x % 2) 1) refl
  where
    even : {A : Type 0} → ◌≡◌ {A = ℕ} 0 1 → A
    even z = absurd (omega arith)

    side : (b : Bool) → eqb (x % 2) 1 ≡ b → eqb (y % 2) 1 ≡ not b
    side true f = ne_eqb (y % 2) 1 (λ h. even (omega (arith, eqb-true (x % 2) 1 f)))
    side false f = let n = eqb-false (x % 2) 1 f in eq-eqb (y % 2) 1 (omega arith)

pub has_and : (k a b : ℕ) → in_set k (bit_and a b) ≡ (in_set k a && in_set k b)
unfolding in_set
has_and k a b =
    let e : bit_and a b / 2 ^ k % 2 ≡ min (a / 2 ^ k % 2) (b / 2 ^ k % 2) = rw and_shr (omega (arith, and_step (a / 2 ^ k) (b / 2 ^ k))) in
    rw e (and_bit (a / 2 ^ k) (b / 2 ^ k))

pub has_half : (k x : ℕ) → in_set (suc k) x ≡ in_set k (x / 2)
unfolding in_set
has_half k x =
    let p : 1 + k ≡ suc k = omega arith in
    let q : x / 2 ^ suc k ≡ x / 2 / 2 ^ k = sym (rw p at (shr-shr x 1 k)) in
    rw q

pub has_low : (x : ℕ) → in_set 0 x ≡ eqb (x % 2) 1
unfolding in_set
has_low x = let q : x / 2 ^ 0 ≡ x = omega arith in rw q

-- The bits of !x, of w bits.
pub has_not : (w k x : ℕ) → k < w → x < 2 ^ w → in_set k (2 ^ w - 1 - x) ≡ not (in_set k x)
has_not zero k x h b = absurd (omega arith)
has_not (suc w) zero x h b =
    let d : 2 ^ suc w ≡ 2 ^ w * 2 = pow-suc 2 w in
    has_low (2 ^ suc w - 1 - x) ∙ not_bit x (2 ^ suc w - 1 - x) (omega (arith, d)) ∙ ap not (sym (has_low x))
has_not (suc w) (suc k) x h b =
    let d : 2 ^ suc w ≡ 2 ^ w * 2 = pow-suc 2 w in
    let e : (2 ^ suc w - 1 - x) / 2 ≡ 2 ^ w - 1 - x / 2 = omega (arith, d) in
    has_half k (2 ^ suc w - 1 - x) ∙ rw e (has_not w k (x / 2) (omega arith) (omega (arith, d))) ∙ ap not (sym (has_half k x))

eqb_suc : (k b : ℕ) → eqb (suc k) (suc b) ≡ eqb k b
eqb_suc k b = side (ℕ_discrete k b)
  where
    side : Dec (k ≡ b) → eqb (suc k) (suc b) ≡ eqb k b
    side (yes d) = eq-eqb (suc k) (suc b) (omega arith) ∙ sym (eq-eqb k b d)
    side (no d) = ne_eqb (suc k) (suc b) (λ e. d (omega arith)) ∙ sym (ne_eqb k b d)

-- 2 ^ b has bit b alone.
pub has_pow : (k b : ℕ) → in_set k (2 ^ b) ≡ eqb k b
has_pow zero zero = has_low 1
has_pow zero (suc b) = has_low (2 ^ suc b) ∙ ne_eqb (2 ^ suc b % 2) 1 (λ e. odd e) ∙ sym (ne_eqb 0 (suc b) (omega arith))
  where
    odd : 2 ^ suc b % 2 ≢ 1
    odd e = omega (arith, pow-suc 2 b)
has_pow (suc k) zero = has_half k 1 ∙ has_zero k ∙ sym (ne_eqb (suc k) 0 (omega arith))
has_pow (suc k) (suc b) =
    let e : 2 ^ suc b / 2 ≡ 2 ^ b = omega (arith, pow-suc 2 b) in
    has_half k (2 ^ suc b) ∙ rw (e, eqb_suc k b) (has_pow k b)

-- A number below 2 ^ w has no bit w or above.
pub has_none : (w k x : ℕ) → x < 2 ^ w → w ≤ k → in_set k x ≡ false
has_none zero k x b h = let z : x ≡ 0 = omega arith in rw z (has_zero k)
has_none (suc w) zero x b h = absurd (omega arith)
has_none (suc w) (suc k) x b h = has_half k x ∙ has_none w k (x / 2) (omega (arith, pow-suc 2 w)) (omega arith)

-- Numbers of w bits with the same bits are the same.
pub same_bits : (w x y : ℕ) → x < 2 ^ w → y < 2 ^ w → ((k : ℕ) → k < w → in_set k x ≡ in_set k y) → x ≡ y
same_bits zero x y a b f = omega arith
same_bits (suc w) x y a b f =
    let d : 2 ^ suc w ≡ 2 ^ w * 2 = pow-suc 2 w in
    let h : x / 2 ≡ y / 2 = same_bits w (x / 2) (y / 2) (omega (arith, d)) (omega (arith, d)) (λ k l. sym (has_half k x) ∙ f (suc k) (omega arith) ∙ has_half k y) in
    let l : x % 2 ≡ y % 2 = low (eqb (x % 2) 1) (eqb (y % 2) 1) refl refl (sym (has_low x) ∙ f 0 (omega arith) ∙ has_low y) in
    omega arith
  where
    low : (p q : Bool) → eqb (x % 2) 1 ≡ p → eqb (y % 2) 1 ≡ q → eqb (x % 2) 1 ≡ eqb (y % 2) 1 → x % 2 ≡ y % 2
    low true q e g h = omega (arith, eqb-true (x % 2) 1 e, eqb-true (y % 2) 1 (sym h ∙ e))
    low false q e g h =
        let m = eqb-false (x % 2) 1 e in
        let n = eqb-false (y % 2) 1 (sym h ∙ e) in
        omega arith

-- The lowest bit cleared, of a number that has bit 0 and of one that has not.
pub clear_odd : (x : ℕ) → x % 2 ≡ 1 → (bit_and x (x - 1) % 2 ≡ 0) × (bit_and x (x - 1) / 2 ≡ x / 2)
clear_odd x e =
    let h : (x - 1) / 2 ≡ x / 2 = omega arith in
    let m : (x - 1) % 2 ≡ 0 = omega arith in
    let s : bit_and x (x - 1) ≡ x / 2 * 2 + 0 = and_step x (x - 1) ∙ rw (h, m, e, and_self (x / 2)) in
    (omega (arith, s), omega (arith, s))

pub clear_even : (x : ℕ) → x % 2 ≡ 0 → x ≢ 0 → (bit_and x (x - 1) % 2 ≡ 0) × (bit_and x (x - 1) / 2 ≡ bit_and (x / 2) (x / 2 - 1))
clear_even x e n =
    let h : (x - 1) / 2 ≡ x / 2 - 1 = omega arith in
    let m : (x - 1) % 2 ≡ 1 = omega arith in
    let s : bit_and x (x - 1) ≡ bit_and (x / 2) (x / 2 - 1) * 2 + 0 = and_step x (x - 1) ∙ rw (h, m, e) in
    (omega (arith, s), omega (arith, s))

-- z is the lowest bit of x, and x & (x - 1) is x without it.
pub record Lowest (w x z : ℕ) : Type 0 where
  pub inside : z < w
  pub there : in_set z x ≡ true
  pub rest : (k : ℕ) → in_set k (bit_and x (x - 1)) ≡ (in_set k x && not (eqb k z))

and_true : (b : Bool) → b ≡ (b && true)
and_true true = refl
and_true false = refl

and_false : (b : Bool) → false ≡ (b && false)
and_false true = refl
and_false false = refl

low_zero : (x : ℕ) → x % 2 ≡ 0 → in_set 0 x ≡ false
low_zero x e = has_low x ∙ rw e

lowest_here : (w x : ℕ) → x % 2 ≡ 1 → Lowest (suc w) x 0
lowest_here w x e =
    record { inside = omega arith; there = has_low x ∙ rw e; rest = rest }
  where
    rest : (k : ℕ) → in_set k (bit_and x (x - 1)) ≡ (in_set k x && not (eqb k 0))
    rest zero = low_zero (bit_and x (x - 1)) (clear_odd x e).0 ∙ and_false (in_set 0 x)
    rest (suc k) =
        has_half k (bit_and x (x - 1)) ∙ rw ((clear_odd x e).1, ne_eqb (suc k) 0 (omega arith)) (sym (has_half k x) ∙ and_true (in_set (suc k) x))

lowest_there : (w x z : ℕ) → x % 2 ≡ 0 → x ≢ 0 → Lowest w (x / 2) z → Lowest (suc w) x (suc z)
lowest_there w x z e n l =
    record { inside = omega (arith, l.inside); there = has_half z x ∙ l.there; rest = rest }
  where
    rest : (k : ℕ) → in_set k (bit_and x (x - 1)) ≡ (in_set k x && not (eqb k (suc z)))
    rest zero = low_zero (bit_and x (x - 1)) (clear_even x e n).0 ∙ rw (low_zero x e)
    rest (suc k) = has_half k (bit_and x (x - 1)) ∙ rw ((clear_even x e n).1, eqb_suc k z, has_half k x) (l.rest k)

pub lowest : (w x : ℕ) → x < 2 ^ w → x ≢ 0 → Lowest w x (count_trailing_zeros w x)
unfolding count_trailing_zeros
lowest zero x b n = absurd (n (omega arith))
lowest (suc w) x b n = side (x % 2) refl (λ z. lowest w (x / 2) (omega (arith, pow-suc 2 w)) z)
  where
    side : (m : ℕ) → x % 2 ≡ m → (x / 2 ≢ 0 → Lowest w (x / 2) (count_trailing_zeros w (x / 2))) → Lowest (suc w) x (under m (count_trailing_zeros w (x / 2)))
    side zero e f = lowest_there w x (count_trailing_zeros w (x / 2)) e n (f (λ z. n (omega arith)))
    side (suc m) e f = lowest_here w x (omega arith)

-- The numbers of a word's set bits: the first is its lowest bit, the others are those of the word without it, and a word is its numbers.
-- Assumes nothing.
use Prim.Native.Nat.{ℕ, zero, suc, ◌+◌, ◌-◌, ◌^◌, ◌/◌, ◌%◌, ◌<◌, ◌≤◌}
use mathlib.Core.Path.{◌≡◌, refl, ◌∙◌, sym}
use mathlib.Core.Logic.{◌≢◌}
use mathlib.Core.Bool.{Bool, true, false, not, ◌&&◌, cond, false≢true}
use mathlib.Core.List.{List, [], ◌∷◌}
use native.Mathlib.Decide.{dec_lt}
use native.Mathlib.Omega.{arith}
use native.Mathlib.Nat.{pow-suc}
use lib.Dec.{eqb}
use lib.Bits.{bit_and, and_le_r}
use lib.Pow.{pow_mono}
use lib.Count.{count_trailing_zeros, under}
use borrow.Author.Tests.{eq-eqb, ne_eqb, eqb-true, eqb-false}
use Rattle.rows.specs.Bits.{bits_from, set_bits}
use Rattle.rules.specs.Locks.{in_set}
use Rattle.rows.proofs.Bits.{clear_odd, clear_even, has_none, lowest}

none_from : (d j : ℕ) → bits_from d j 0 ≡ []
unfolding bits_from
none_from zero j = refl
none_from (suc d) j = none_from d (j + 1)

not_odd : {m : ℕ} → m ≡ 0 → m ≢ 1
not_odd e o = omega arith

-- The lowest bit comes first.
pub record FirstBit (d j x z : ℕ) : Type 0 where
  pub inside : z < d
  pub eq : bits_from d j x ≡ (j + z) ∷ bits_from d j (bit_and x (x - 1))

first_here : (d j x : ℕ) → x % 2 ≡ 1 → FirstBit (suc d) j x 0
unfolding bits_from
first_here d j x e =
    let a : j + 0 ≡ j = omega arith in
    let q = clear_odd x e in
    record { inside = omega arith; eq = rw (eq-eqb (x % 2) 1 e, a, q.0, q.1) }

first_there : (d j x z : ℕ) → x % 2 ≡ 0 → x ≢ 0 → FirstBit d (j + 1) (x / 2) z → FirstBit (suc d) j x (suc z)
unfolding bits_from
first_there d j x z e n l =
    let a : j + suc z ≡ j + 1 + z = omega arith in
    let q = clear_even x e n in
    record { inside = omega (arith, l.inside); eq = rw (ne_eqb (x % 2) 1 (not_odd e), l.eq, a, q.0, q.1) }

pub first_bit : (d j x : ℕ) → x < 2 ^ d → x ≢ 0 → FirstBit d j x (count_trailing_zeros d x)
unfolding count_trailing_zeros
first_bit zero j x b n = absurd (n (omega arith))
first_bit (suc d) j x b n = side (x % 2) refl (λ z. first_bit d (j + 1) (x / 2) (omega (arith, pow-suc 2 d)) z)
  where
    side : (m : ℕ) → x % 2 ≡ m → (x / 2 ≢ 0 → FirstBit d (j + 1) (x / 2) (count_trailing_zeros d (x / 2)))
        → FirstBit (suc d) j x (under m (count_trailing_zeros d (x / 2)))
    side zero e f = first_there d j x (count_trailing_zeros d (x / 2)) e n (f (λ z. n (omega arith)))
    side (suc m) e f = first_here d j x (omega arith)

pub no_bits : (x : ℕ) → x ≡ 0 → set_bits x ≡ []
unfolding set_bits
no_bits x e = rw e (none_from 64 0)

pub lowest_bit : (x : ℕ) → x < 2 ^ 64 → x ≢ 0 → set_bits x ≡ count_trailing_zeros 64 x ∷ set_bits (bit_and x (x - 1))
unfolding set_bits
lowest_bit x b n =
    let z : 0 + count_trailing_zeros 64 x ≡ count_trailing_zeros 64 x = omega arith in
    rw z at (first_bit 64 0 x b n).eq

-- The first number is one of the d from j on.
record Among (d j h : ℕ) : Type 0 where
  least : j ≤ h
  most : h < j + d

among : (d j x h : ℕ) (t : List ℕ) → bits_from d j x ≡ h ∷ t → Among d j h
unfolding bits_from
among zero j x h t e = absurd (cc)
among (suc d) j x h t e = side (eqb (x % 2) 1) e (among d (j + 1) (x / 2) h t)
  where
    side : (b : Bool) → cond b (j ∷ bits_from d (j + 1) (x / 2)) (bits_from d (j + 1) (x / 2)) ≡ h ∷ t
        → (bits_from d (j + 1) (x / 2) ≡ h ∷ t → Among d (j + 1) h) → Among (suc d) j h
    side true q r = let z : j ≡ h = cc in record { least = omega arith; most = omega arith }
    side false q r = let m = r q in record { least = omega (arith, m.least); most = omega (arith, m.most) }

pub below_64 : (x z : ℕ) (t : List ℕ) → set_bits x ≡ z ∷ t → z < 64
unfolding set_bits
below_64 x z t e = let m = among 64 0 x z t e in omega (arith, m.most)

-- Words with the same numbers are the same.
same_from : (d j x y : ℕ) → x < 2 ^ d → y < 2 ^ d → bits_from d j x ≡ bits_from d j y → x ≡ y
unfolding bits_from
same_from zero j x y a b e = omega arith
same_from (suc d) j x y a b e =
    side (eqb (x % 2) 1) (eqb (y % 2) 1) refl refl e (same_from d (j + 1) (x / 2) (y / 2) (omega (arith, pow-suc 2 d)) (omega (arith, pow-suc 2 d)))
  where
    side : (p q : Bool) → eqb (x % 2) 1 ≡ p → eqb (y % 2) 1 ≡ q → cond p (j ∷ bits_from d (j + 1) (x / 2)) (bits_from d (j + 1) (x / 2)) ≡ cond q (j ∷ bits_from d (j + 1) (y / 2)) (bits_from d (j + 1) (y / 2))
        → (bits_from d (j + 1) (x / 2) ≡ bits_from d (j + 1) (y / 2) → x / 2 ≡ y / 2) → x ≡ y
    side true true f g e r = let t : bits_from d (j + 1) (x / 2) ≡ bits_from d (j + 1) (y / 2) = cc in omega (arith, eqb-true (x % 2) 1 f, eqb-true (y % 2) 1 g, r t)
    side true false f g e r = let h = among d (j + 1) (y / 2) j (bits_from d (j + 1) (x / 2)) (sym e) in omega (arith, h.least)
    side false true f g e r = let h = among d (j + 1) (x / 2) j (bits_from d (j + 1) (y / 2)) e in omega (arith, h.least)
    side false false f g e r =
        let m = eqb-false (x % 2) 1 f in
        let n = eqb-false (y % 2) 1 g in
        omega (arith, r e)

pub same_word : (x y : ℕ) → x < 2 ^ 64 → y < 2 ^ 64 → set_bits x ≡ set_bits y → x ≡ y
unfolding set_bits
same_word x y a b e = same_from 64 0 x y a b e

pub none_left : (x : ℕ) → x < 2 ^ 64 → set_bits x ≡ [] → x ≡ 0
none_left x b e = same_word x 0 b (omega arith) (e ∙ sym (no_bits 0 refl))

-- The first number of a word is that of its lowest bit; so it is below w where the word has w bits.
record First (x z : ℕ) (t : List ℕ) : Type 0 where
  some : x ≢ 0
  lowest : z ≡ count_trailing_zeros 64 x
  rest : t ≡ set_bits (bit_and x (x - 1))

first_of : (x z : ℕ) (t : List ℕ) → x < 2 ^ 64 → set_bits x ≡ z ∷ t → First x z t
first_of x z t b e = let f = lowest_bit x b some in record { some = some; lowest = cc; rest = cc }
  where
    some : x ≢ 0
    some n = let v = no_bits x n in absurd (cc)

below : (w x z : ℕ) (t : List ℕ) → w ≤ 64 → x < 2 ^ w → set_bits x ≡ z ∷ t → z < w
below w x z t l b e =
    let m : x < 2 ^ 64 = omega (arith, pow_mono l) in
    let f = first_of x z t m e in
    side (dec_lt z w) (rw f.lowest (lowest 64 x m f.some).there)
  where
    side : Dec (z < w) → in_set z x ≡ true → z < w
    side (yes d) h = d
    side (no d) h = absurd (false≢true (sym (has_none w z x b (omega arith)) ∙ h))

pub below_32 : (x z : ℕ) (t : List ℕ) → x < 2 ^ 32 → set_bits x ≡ z ∷ t → z < 32
below_32 x z t b e = below 32 x z t (omega arith) b e

-- A number z has come of the word x, of 32 bits, and y is left: x without the bit z.
pub record Taken (x z y : ℕ) : Type 0 where
  pub inside : z < 32
  pub less : y < x
  pub there : in_set z x ≡ true
  pub rest : (k : ℕ) → in_set k y ≡ (in_set k x && not (eqb k z))

pub taken : (x z y : ℕ) → x < 2 ^ 32 → y < 2 ^ 64 → set_bits x ≡ z ∷ set_bits y → Taken x z y
taken x z y b c e =
    let f = first_of x z (set_bits y) (omega arith) e in
    let o = lowest 64 x (omega arith) f.some in
    let q : y ≡ bit_and x (x - 1) = same_word y (bit_and x (x - 1)) c (omega (arith, and_le_r x (x - 1))) f.rest in
    record {
      inside = below_32 x z (set_bits y) b e;
      less = rw q (omega (arith, and_le_r x (x - 1), f.some));
      there = rw f.lowest o.there;
      rest = rw (f.lowest, q) o.rest;
    }

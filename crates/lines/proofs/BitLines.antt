-- The lines of a word's set bits: lowest bit first, as many bytes as their lines have, and those of a row of two words.
-- Assumes nothing.
use Prim.Native.Nat.{ℕ, zero, suc, ◌+◌, ◌*◌, ◌/◌, ◌%◌, ◌<◌, ◌≤◌}
use mathlib.Core.Path.{◌≡◌, refl, sym, ◌∙◌, ap}
use mathlib.Core.Bool.{Bool, true, false, cond}
use mathlib.Core.List.{List, [], ◌∷◌, ◌++◌, append_assoc}
use native.Mathlib.Omega.{arith}
use native.Mathlib.Nat.{suc-mul}
use lib.Dec.{eqb}
use lib.ListN.{length, length-append}
use Rattle.rules.specs.Bounded.{Pair, bytes_of}
use Rattle.rules.specs.Locks.{in_set}
use Rattle.rules.specs.Listing.{lines}
use Rattle.rows.specs.Bits.{bits_from, set_bits}
use Rattle.rows.specs.Writing.{bit_pairs, row_of}
use Rattle.rows.proofs.Bits.{has_low, has_half}
use Rattle.rows.proofs.Pairs.{row_of_lem}
use Rattle.lines.specs.Lines.{bit_lines}

abbrev pub pair : ℕ → ℕ → Pair
pair i j = record { one = i; two = j }

-- The lines of the numbers j + z.
unfoldable lines_with : (ℕ → List ℕ) → ℕ → List ℕ → List ℕ
lines_with f j [] = []
lines_with f j (z ∷ zs) = f (j + z) ++ lines_with f j zs

of_numbers : (f : ℕ → List ℕ) (d j k x : ℕ) → bit_lines f d (j + k) x ≡ lines_with f j (bits_from d k x)
unfolding bit_lines bits_from lines_with
of_numbers f zero j k x = refl
of_numbers f (suc d) j k x = let e : j + k + 1 ≡ j + (k + 1) = omega arith in rw e (side (eqb (x % 2) 1) (of_numbers f d j (k + 1) (x / 2)))
  where
    side : (b : Bool) → bit_lines f d (j + (k + 1)) (x / 2) ≡ lines_with f j (bits_from d (k + 1) (x / 2))
        → cond b (f (j + k) ++ bit_lines f d (j + (k + 1)) (x / 2)) (bit_lines f d (j + (k + 1)) (x / 2))
        ≡ lines_with f j (cond b (k ∷ bits_from d (k + 1) (x / 2)) (bits_from d (k + 1) (x / 2)))
    side true r = ap (λ (l : List ℕ). f (j + k) ++ l) r
    side false r = r

of_word : (f : ℕ → List ℕ) (j x : ℕ) → bit_lines f 64 j x ≡ lines_with f j (set_bits x)
unfolding set_bits
of_word f j x = let z : j + 0 ≡ j = omega arith in rw z at (of_numbers f 64 j 0 x)

-- The line of the first number comes first, and where no number is left there are no lines.
pub first_line : (f : ℕ → List ℕ) (j x z y : ℕ) → set_bits x ≡ z ∷ set_bits y → bit_lines f 64 j x ≡ f (j + z) ++ bit_lines f 64 j y
unfolding lines_with
first_line f j x z y e = of_word f j x ∙ ap (lines_with f j) e ∙ ap (λ (l : List ℕ). f (j + z) ++ l) (sym (of_word f j y))

pub last_line : (f : ℕ → List ℕ) (j x : ℕ) → set_bits x ≡ [] → bit_lines f 64 j x ≡ []
unfolding lines_with
last_line f j x e = of_word f j x ∙ ap (lines_with f j) e

-- What holds of the bits of x holds of its lowest, and of those of its half.
module _ (P : ℕ → Type 0) (d j x : ℕ) (h : (k : ℕ) → k < suc d → in_set k x ≡ true → P (j + k)) where
  low_bit : eqb (x % 2) 1 ≡ true → P j
  low_bit e = let z : j + 0 ≡ j = omega arith in rw z at (h 0 (omega arith) (has_low x ∙ e))

  high_bits : (k : ℕ) → k < d → in_set k (x / 2) ≡ true → P (j + 1 + k)
  high_bits k l e = let z : j + suc k ≡ j + 1 + k = omega arith in rw z at (h (suc k) (omega arith) (has_half k x ∙ e))

-- Lines that agree where a bit is set.
pub same_lines : (f g : ℕ → List ℕ) (d j x : ℕ) → ((k : ℕ) → k < d → in_set k x ≡ true → f (j + k) ≡ g (j + k)) → bit_lines f d j x ≡ bit_lines g d j x
unfolding bit_lines
same_lines f g zero j x h = refl
same_lines f g (suc d) j x h =
    side (eqb (x % 2) 1) refl (same_lines f g d (j + 1) (x / 2) (high_bits (λ k. f k ≡ g k) d j x h))
  where
    side : (b : Bool) → eqb (x % 2) 1 ≡ b → bit_lines f d (j + 1) (x / 2) ≡ bit_lines g d (j + 1) (x / 2)
        → cond b (f j ++ bit_lines f d (j + 1) (x / 2)) (bit_lines f d (j + 1) (x / 2)) ≡ cond b (g j ++ bit_lines g d (j + 1) (x / 2)) (bit_lines g d (j + 1) (x / 2))
    side true e r = rw (low_bit (λ k. f k ≡ g k) d j x h e, r)
    side false e r = r

-- Lines that are equally long where a bit is set.
pub same_lengths : (f g : ℕ → List ℕ) (d j x : ℕ) → ((k : ℕ) → k < d → in_set k x ≡ true → length (f (j + k)) ≡ length (g (j + k)))
    → length (bit_lines f d j x) ≡ length (bit_lines g d j x)
unfolding bit_lines
same_lengths f g zero j x h = refl
same_lengths f g (suc d) j x h =
    side (eqb (x % 2) 1) refl (same_lengths f g d (j + 1) (x / 2) (high_bits (λ k. length (f k) ≡ length (g k)) d j x h))
  where
    side : (b : Bool) → eqb (x % 2) 1 ≡ b → length (bit_lines f d (j + 1) (x / 2)) ≡ length (bit_lines g d (j + 1) (x / 2))
        → length (cond b (f j ++ bit_lines f d (j + 1) (x / 2)) (bit_lines f d (j + 1) (x / 2))) ≡ length (cond b (g j ++ bit_lines g d (j + 1) (x / 2)) (bit_lines g d (j + 1) (x / 2)))
    side true e r = rw (length-append (f j) (bit_lines f d (j + 1) (x / 2)), length-append (g j) (bit_lines g d (j + 1) (x / 2))) (omega (arith, low_bit (λ k. length (f k) ≡ length (g k)) d j x h e, r))
    side false e r = r

pub few_bytes : (f : ℕ → List ℕ) (b : ℕ) → ((j : ℕ) → length (f j) ≤ b) → (d j x : ℕ) → length (bit_lines f d j x) ≤ d * b
unfolding bit_lines
few_bytes f b h zero j x = omega arith
few_bytes f b h (suc d) j x = side (eqb (x % 2) 1) (few_bytes f b h d (j + 1) (x / 2))
  where
    side : (c : Bool) → length (bit_lines f d (j + 1) (x / 2)) ≤ d * b → length (cond c (f j ++ bit_lines f d (j + 1) (x / 2)) (bit_lines f d (j + 1) (x / 2))) ≤ suc d * b
    side true r = rw length-append (omega (arith, h j, r, suc-mul d b))
    side false r = omega (arith, r, suc-mul d b)

-- The pairs that stand in bytes, two bytes a pair.
unfoldable pairs_of : List ℕ → List Pair
pairs_of [] = []
pairs_of (i ∷ []) = []
pairs_of (i ∷ j ∷ l) = pair i j ∷ pairs_of l

pairs_back : (ps : List Pair) → pairs_of (bytes_of ps) ≡ ps
unfolding pairs_of bytes_of
pairs_back [] = refl
pairs_back (p ∷ ps) = ap (λ (l : List Pair). p ∷ l) (pairs_back ps)

pairs_then : (d i j x : ℕ) (ys : List ℕ) → pairs_of (bit_pairs d i j x ++ ys) ≡ pairs_of (bit_pairs d i j x) ++ pairs_of ys
unfolding bit_pairs pairs_of
pairs_then zero i j x ys = refl
pairs_then (suc d) i j x ys = side (eqb (x % 2) 1) (pairs_then d i (j + 1) (x / 2) ys)
  where
    side : (b : Bool) → pairs_of (bit_pairs d i (j + 1) (x / 2) ++ ys) ≡ pairs_of (bit_pairs d i (j + 1) (x / 2)) ++ pairs_of ys
        → pairs_of (cond b (i ∷ j ∷ bit_pairs d i (j + 1) (x / 2)) (bit_pairs d i (j + 1) (x / 2)) ++ ys) ≡ pairs_of (cond b (i ∷ j ∷ bit_pairs d i (j + 1) (x / 2)) (bit_pairs d i (j + 1) (x / 2))) ++ pairs_of ys
    side true r = ap (λ (l : List Pair). pair i j ∷ l) r
    side false r = r

pub lines_append : (g : Pair → List ℕ) (ps qs : List Pair) → lines g (ps ++ qs) ≡ lines g ps ++ lines g qs
unfolding lines
lines_append g [] qs = refl
lines_append g (p ∷ ps) qs = rw (lines_append g ps qs) (sym (append_assoc (g p) (lines g ps) (lines g qs)))

-- The lines of the pairs of i with the set bits.
as_lines : (g : Pair → List ℕ) (i d j x : ℕ) → bit_lines (λ k. g (pair i k)) d j x ≡ lines g (pairs_of (bit_pairs d i j x))
unfolding bit_lines bit_pairs pairs_of lines
as_lines g i zero j x = refl
as_lines g i (suc d) j x = side (eqb (x % 2) 1) (as_lines g i d (j + 1) (x / 2))
  where
    side : (b : Bool) → bit_lines (λ k. g (pair i k)) d (j + 1) (x / 2) ≡ lines g (pairs_of (bit_pairs d i (j + 1) (x / 2)))
        → cond b (g (pair i j) ++ bit_lines (λ k. g (pair i k)) d (j + 1) (x / 2)) (bit_lines (λ k. g (pair i k)) d (j + 1) (x / 2))
        ≡ lines g (pairs_of (cond b (i ∷ j ∷ bit_pairs d i (j + 1) (x / 2)) (bit_pairs d i (j + 1) (x / 2))))
    side true r = ap (λ (l : List ℕ). g (pair i j) ++ l) r
    side false r = r

-- The lines of a row of two words.
pub row_lines : (g : Pair → List ℕ) (low high i : ℕ)
    → lines g (row_of low high i) ≡ bit_lines (λ k. g (pair i k)) 64 0 low ++ bit_lines (λ k. g (pair i k)) 64 64 high
row_lines g low high i =
    ap (lines g) (sym (pairs_back (row_of low high i)) ∙ ap pairs_of (row_of_lem low high i) ∙ pairs_then 64 i 0 low (bit_pairs 64 i 64 high))
    ∙ lines_append g (pairs_of (bit_pairs 64 i 0 low)) (pairs_of (bit_pairs 64 i 64 high))
    ∙ rw (as_lines g i 64 0 low, as_lines g i 64 64 high)

-- The pairs of a word: lowest bit first, run by run, as many as bits, and those of a row of two words.
-- Assumes nothing.
use Prim.Native.Nat.{ℕ, zero, suc, ◌+◌, ◌*◌, ◌-◌, ◌^◌, ◌/◌, ◌%◌, ◌<◌, ◌≤◌}
use mathlib.Core.Path.{◌≡◌, refl, ap, ◌∙◌, sym}
use mathlib.Core.Bool.{Bool, true, false, ◌&&◌, cond}
use mathlib.Core.List.{List, [], ◌∷◌, ◌++◌, append_assoc, append-nil}
use native.Mathlib.Omega.{arith}
use native.Mathlib.Nat.{pow-suc}
use native.Mathlib.Numerals.{add-one}
use lib.Dec.{eqb, ltb}
use lib.ListN.{length, set, length-append, length-set}
use lib.Seq.{sets, length-sets}
use lib.Count.{ones, ones_step, ones-le}
use borrow.Author.Tests.{eqb-true, eqb-false, lt-ltb, le-ltb, ltb-true, ltb-false}
use Rattle.rules.specs.Bounded.{Pair, row, bytes_of}
use Rattle.rules.specs.Locks.{in_set}
use Rattle.rules.proofs.FewPairs.{bytes_length}
use Rattle.rows.specs.Rows.{Row, in_row}
use Rattle.rows.specs.Bits.{bits_from, set_bits}
use Rattle.rows.specs.Writing.{Wrote, row_of, bit_pairs}
use Rattle.rows.proofs.Bits.{has_low, has_half}
use Rattle.rows.proofs.Written.{sets_append}

pub no_pairs : (d i j : ℕ) → bit_pairs d i j 0 ≡ []
unfolding bit_pairs
no_pairs zero i j = refl
no_pairs (suc d) i j = no_pairs d i (j + 1)

-- The pairs of i with the numbers j + z.
unfoldable pairs_with : ℕ → ℕ → List ℕ → List ℕ
pairs_with i j [] = []
pairs_with i j (z ∷ zs) = i ∷ (j + z) ∷ pairs_with i j zs

of_numbers : (d i j k x : ℕ) → bit_pairs d i (j + k) x ≡ pairs_with i j (bits_from d k x)
unfolding bit_pairs bits_from pairs_with
of_numbers zero i j k x = refl
of_numbers (suc d) i j k x = let e : j + k + 1 ≡ j + (k + 1) = omega arith in rw e (side (eqb (x % 2) 1) (of_numbers d i j (k + 1) (x / 2)))
  where
    side : (b : Bool) → bit_pairs d i (j + (k + 1)) (x / 2) ≡ pairs_with i j (bits_from d (k + 1) (x / 2))
        → cond b (i ∷ (j + k) ∷ bit_pairs d i (j + (k + 1)) (x / 2)) (bit_pairs d i (j + (k + 1)) (x / 2))
        ≡ pairs_with i j (cond b (k ∷ bits_from d (k + 1) (x / 2)) (bits_from d (k + 1) (x / 2)))
    side true r = ap (λ (l : List ℕ). i ∷ (j + k) ∷ l) r
    side false r = r

of_word : (i j x : ℕ) → bit_pairs 64 i j x ≡ pairs_with i j (set_bits x)
unfolding set_bits
of_word i j x = let z : j + 0 ≡ j = omega arith in rw z at (of_numbers 64 i j 0 x)

-- The pair of the first number comes first.
pub first_pair : (i j x z y : ℕ) → set_bits x ≡ z ∷ set_bits y → bit_pairs 64 i j x ≡ i ∷ (j + z) ∷ bit_pairs 64 i j y
unfolding pairs_with
first_pair i j x z y e = of_word i j x ∙ ap (pairs_with i j) e ∙ ap (λ (l : List ℕ). i ∷ (j + z) ∷ l) (sym (of_word i j y))

pub last_pair : (i j x : ℕ) → set_bits x ≡ [] → bit_pairs 64 i j x ≡ []
unfolding pairs_with
last_pair i j x e = of_word i j x ∙ ap (pairs_with i j) e

-- Two bytes a bit.
pub counted : (d i j x : ℕ) → x < 2 ^ d → length (bit_pairs d i j x) ≡ 2 * ones x
unfolding bit_pairs
counted zero i j x h =
    let e : x ≡ 0 = omega arith in
    let z : ones 0 ≤ 0 = ones-le 0 0 (omega arith) in
    rw e (omega arith)
counted (suc d) i j x h = side (eqb (x % 2) 1) refl (counted d i (j + 1) (x / 2) (omega (arith, pow-suc 2 d)))
  where
    side : (b : Bool) → eqb (x % 2) 1 ≡ b → length (bit_pairs d i (j + 1) (x / 2)) ≡ 2 * ones (x / 2)
        → length (cond b (i ∷ j ∷ bit_pairs d i (j + 1) (x / 2)) (bit_pairs d i (j + 1) (x / 2))) ≡ 2 * ones x
    side true e r = omega (arith, r, ones_step x, eqb-true (x % 2) 1 e)
    side false e r = let n = eqb-false (x % 2) 1 e in omega (arith, r, ones_step x)

-- Two stores.
pub two_stores : (l : List ℕ) (k x y : ℕ) (vs : List ℕ) → sets (set (set l k x) (k + 1) y) (k + 2) vs ≡ sets l k (x ∷ y ∷ vs)
two_stores l k x y vs =
    let e : k + 2 ≡ suc (suc k) = omega arith in
    let f : k + 1 ≡ suc k = omega arith in
    rw (e, f)

-- Of the bytes vs, to be written into l₀ from k₀ on, ws are left: what is left gives the whole.
pub record StillWrites (l₀ : List ℕ) (k₀ : ℕ) (vs l : List ℕ) (k : ℕ) (ws : List ℕ) : Type 0 where
  pub sized : length l ≡ length l₀
  pub bytes : sets l k ws ≡ sets l₀ k₀ vs
  pub place : k + length ws ≡ k₀ + length vs

pub writes_first : {l : List ℕ} {k : ℕ} {vs : List ℕ} → StillWrites l k vs l k vs
writes_first = record { sized = refl; bytes = refl; place = refl }

pub writes_pair : {l₀ : List ℕ} {k₀ : ℕ} {vs l : List ℕ} {k : ℕ} {ws : List ℕ} {x y : ℕ} {us : List ℕ} → StillWrites l₀ k₀ vs l k ws
    → ws ≡ x ∷ y ∷ us → StillWrites l₀ k₀ vs (set (set l k x) (k + 1) y) (k + 2) us
writes_pair {l₀} {k₀} {vs} {l} {k} {ws} {x} {y} {us} f e =
    record {
      sized = rw (length-set, length-set) f.sized;
      bytes = two_stores l k x y us ∙ ap (sets l k) (sym e) ∙ f.bytes;
      place = omega (arith, f.place, ap length e);
    }

-- While a bit is left, there is room for its pair.
pub room_for_pair : (i j x z y : ℕ) {l₀ : List ℕ} {k₀ : ℕ} {vs l : List ℕ} {k : ℕ} → StillWrites l₀ k₀ vs l k (bit_pairs 64 i j x) → set_bits x ≡ z ∷ set_bits y
    → k₀ + length vs ≤ length l₀ → k + 2 ≤ length l
room_for_pair i j x z y {l₀} {k₀} {vs} {l} {k} f e h = omega (arith, f.place, f.sized, ap length (first_pair i j x z y e))

pub writes_piece : {l₀ : List ℕ} {k₀ : ℕ} {vs l : List ℕ} {k : ℕ} {ws xs ys m : List ℕ} {r : ℕ} → StillWrites l₀ k₀ vs l k ws
    → ws ≡ xs ++ ys → Wrote l k xs m r → StillWrites l₀ k₀ vs m r ys
writes_piece {l₀} {k₀} {vs} {l} {k} {ws} {xs} {ys} {m} {r} f e w =
    record {
      sized = ap length w.bytes ∙ length-sets l k xs ∙ f.sized;
      bytes = rw (w.bytes, w.place) (sym (sets_append xs ys l k) ∙ rw (← e) f.bytes);
      place = omega (arith, f.place, w.place, rw length-append at (ap length e));
    }

pub writes_end : {l₀ : List ℕ} {k₀ : ℕ} {vs l : List ℕ} {k : ℕ} {ws : List ℕ} → StillWrites l₀ k₀ vs l k ws → ws ≡ [] → Wrote l₀ k₀ vs l k
writes_end {l₀} {k₀} {vs} {l} {k} {ws} f e =
    record { bytes = rw e at f.bytes; place = omega (arith, f.place, ap length e) }

-- ---- rows

pub bytes_append : (a b : List Pair) → bytes_of (a ++ b) ≡ bytes_of a ++ bytes_of b
unfolding bytes_of
bytes_append [] b = refl
bytes_append (p ∷ a) b = ap (λ (r : List ℕ). p.one ∷ p.two ∷ r) (bytes_append a b)

one_more : (p : ℕ → ℕ → Bool) (i m : ℕ) (b : Bool) (rest : List ℕ) → p i m ≡ b
    → bytes_of (row p i (m + 1)) ++ rest ≡ bytes_of (row p i m) ++ cond b (i ∷ m ∷ rest) rest
unfolding row bytes_of
one_more p i m b rest e =
    rw (add-one m, e, bytes_append (row p i m) (cond b (record { one = i; two = m } ∷ []) []), append_assoc) (side b)
  where
    side : (b : Bool) → bytes_of (row p i m) ++ (bytes_of (cond b (record { one = i; two = m } ∷ []) []) ++ rest) ≡ bytes_of (row p i m) ++ cond b (i ∷ m ∷ rest) rest
    side true = refl
    side false = refl

-- The next d numbers of a row that are the bits of a word.
row_bits : (p : ℕ → ℕ → Bool) (i d m x : ℕ) → ((k : ℕ) → k < d → p i (m + k) ≡ in_set k x)
    → bytes_of (row p i (m + d)) ≡ bytes_of (row p i m) ++ bit_pairs d i m x
unfolding bit_pairs
row_bits p i zero m x f = let e : m + 0 ≡ m = omega arith in rw e (sym (append-nil (bytes_of (row p i m))))
row_bits p i (suc d) m x f =
    let e : m + suc d ≡ m + 1 + d = omega arith in
    rw e (row_bits p i d (m + 1) (x / 2) (λ k h. rw (shift k) at (f (suc k) (omega arith)) ∙ has_half k x) ∙ one_more p i m (eqb (x % 2) 1) (bit_pairs d i (m + 1) (x / 2)) (low (f 0 (omega arith))))
  where
    shift : (k : ℕ) → m + suc k ≡ m + 1 + k
    shift k = omega arith

    low : p i (m + 0) ≡ in_set 0 x → p i m ≡ eqb (x % 2) 1
    low g = let z : m + 0 ≡ m = omega arith in rw z at g ∙ has_low x

start : (p : ℕ → ℕ → Bool) (i : ℕ) (l : List ℕ) → bytes_of (row p i 0) ++ l ≡ l
unfolding row bytes_of
start p i l = refl

pub in_low : (low high k : ℕ) → k < 64 → in_row low high k ≡ in_set k low
unfolding in_row
in_low low high k h = rw (lt-ltb k 64 h)

pub in_high : (low high k : ℕ) → in_row low high (64 + k) ≡ in_set k high
unfolding in_row
in_high low high k = let z : 64 + k - 64 ≡ k = omega arith in rw (le-ltb (64 + k) 64 (omega arith), z)

-- The pairs of a row of two words.
pub row_of_lem : (low high i : ℕ) → bytes_of (row_of low high i) ≡ bit_pairs 64 i 0 low ++ bit_pairs 64 i 64 high
unfolding row_of
row_of_lem low high i =
    row_bits (λ _ j. in_row low high j) i 64 64 high upper
    ∙ ap (λ (r : List ℕ). r ++ bit_pairs 64 i 64 high) (row_bits (λ _ j. in_row low high j) i 64 0 low lower ∙ none)
  where
    none : bytes_of (row (λ _ j. in_row low high j) i 0) ++ bit_pairs 64 i 0 low ≡ bit_pairs 64 i 0 low
    none = start (λ _ j. in_row low high j) i (bit_pairs 64 i 0 low)

    lower : (k : ℕ) → k < 64 → in_row low high (0 + k) ≡ in_set k low
    lower k h = let z : 0 + k ≡ k = omega arith in rw z (in_low low high k h)

    upper : (k : ℕ) → k < 64 → in_row low high (64 + k) ≡ in_set k high
    upper k h = in_high low high k

pub row_length : (low high i : ℕ) → low < 2 ^ 64 → high < 2 ^ 64 → ones low + ones high ≡ length (row_of low high i)
row_length low high i h l =
    let n = bytes_length (row_of low high i) in
    let m = rw (length-append (bit_pairs 64 i 0 low) (bit_pairs 64 i 64 high), counted 64 i 0 low h, counted 64 i 64 high l) at (ap length (row_of_lem low high i)) in
    omega arith

-- Rows of tests that agree are equal, and where nothing passes a row goes on unchanged.
row_same : (p q : ℕ → ℕ → Bool) (i n : ℕ) → ((j : ℕ) → j < n → p i j ≡ q i j) → row p i n ≡ row q i n
unfolding row
row_same p q i zero f = refl
row_same p q i (suc n) f = rw (f n (omega arith), row_same p q i n (λ j h. f j (omega arith)))

row_past : (p : ℕ → ℕ → Bool) (i n d : ℕ) → ((j : ℕ) → n ≤ j → j < n + d → p i j ≡ false) → row p i (n + d) ≡ row p i n
unfolding row
row_past p i n zero f = let e : n + 0 ≡ n = omega arith in rw e
row_past p i n (suc d) f =
    let e : n + suc d ≡ suc (n + d) = omega arith in
    rw (e, f (n + d) (omega arith) (omega arith), append-nil) (row_past p i n d (λ j l h. f j l (omega arith)))

-- Two words that say which of n numbers pass p hold the row of p.
pub row_words : (p : ℕ → ℕ → Bool) (i n low high : ℕ) → n ≤ 128 → Row 64 (p i) 0 n low → Row 64 (p i) 64 n high → row_of low high i ≡ row p i n
unfolding row_of
row_words p i n low high h f g =
    let e : n + (128 - n) ≡ 128 = omega arith in
    rw e at (row_past q i n (128 - n) (λ j l m. test j (omega arith) ∙ rw (le-ltb j n l)))
    ∙ row_same q p i n (λ j l. test j (omega arith) ∙ rw (lt-ltb j n l))
  where
    q : ℕ → ℕ → Bool
    q _ j = in_row low high j

    test : (j : ℕ) → j < 128 → in_row low high j ≡ (ltb j n && p i j)
    test j l = side (ltb j 64) refl
      where
        side : (b : Bool) → ltb j 64 ≡ b → in_row low high j ≡ (ltb j n && p i j)
        side true e = let z : 0 + j ≡ j = omega arith in in_low low high j (ltb-true j 64 e) ∙ rw z at (f.bits j (ltb-true j 64 e))
        side false e =
            let m = ltb-false j 64 e in
            let z : 64 + (j - 64) ≡ j = omega arith in
            rw z at (in_high low high (j - 64)) ∙ rw z at (g.bits (j - 64) (omega arith))

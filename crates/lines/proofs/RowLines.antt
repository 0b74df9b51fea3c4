-- The lines of rows of words: those of each row come after those of the rows before it, and those of one row are its head with the tails of its
-- numbers.
-- Assumes nothing.
use Prim.Native.Nat.{ℕ, zero, suc, ◌+◌, ◌*◌, ◌-◌, ◌<◌, ◌≤◌, min}
use mathlib.Core.Path.{◌≡◌, refl, ◌∙◌, ap}
use mathlib.Core.List.{List, [], ◌∷◌, ◌++◌}
use native.Mathlib.Numerals.{add-one}
use native.Mathlib.Omega.{arith}
use lib.ListN.{length, take, get_or, length-append, length-replicate}
use Rattle.rules.specs.Bounded.{Pair}
use Rattle.rules.specs.Table.{Table}
use Rattle.rules.specs.Listing.{lines}
use Rattle.rows.specs.Bits.{set_bits}
use Rattle.rows.specs.Writing.{Wrote, row_of}
use Rattle.rows.proofs.BitList.{below_64}
use Rattle.rows.proofs.Written.{none, next, same_room}
use Rattle.store.specs.Parts.{part}
use Rattle.lines.specs.declared.Section.{Section}
use Rattle.lines.specs.Lines.{pair_line, head_of, seconds, tail_at, line_at, blank, bit_lines, Short, Lengths, Tails, Within, rows_from}
use Rattle.store.proofs.Parts.{length_part, part_stored}
use Rattle.lines.proofs.BitLines.{pair, same_lines, same_lengths, few_bytes, first_line, lines_append, row_lines}
use Rattle.lines.proofs.LineEnds.{line_ends}

module _ (g : Pair → List ℕ) (low high : List ℕ) (from : ℕ) where
  pub rows_one : (i : ℕ)
      → lines g (rows_from low high from (i + 1)) ≡ lines g (rows_from low high from i) ++ lines g (row_of (get_or low (from + i) 0) (get_or high (from + i) 0) (from + i))
  unfolding rows_from
  rows_one i = rw (add-one i) (lines_append g (rows_from low high from i) (row_of (get_or low (from + i) 0) (get_or high (from + i) 0) (from + i)))

  rows_grow : (i d : ℕ) → length (lines g (rows_from low high from i)) ≤ length (lines g (rows_from low high from (d + i)))
  rows_grow i zero = let z : 0 + i ≡ i = omega arith in rw z (omega arith)
  rows_grow i (suc d) = let z : suc d + i ≡ d + i + 1 = omega arith in rw (z, rows_one (d + i), length-append) (omega (arith, rows_grow i d))

  -- The turns: a row's lines are counted after those of the rows before it, and written after them, where there is room for all n, or for 4,096
  -- bytes a row.
  pub count_begins : 0 ≡ length (lines g (rows_from low high from 0))
  unfolding rows_from lines
  count_begins = refl

  pub count_goes : (i : ℕ) {k r : ℕ} → k ≡ length (lines g (rows_from low high from i))
      → r ≡ length (lines g (row_of (get_or low (from + i) 0) (get_or high (from + i) 0) (from + i))) → k + r ≡ length (lines g (rows_from low high from (i + 1)))
  count_goes i e f = rw (rows_one i, length-append) (omega arith)

  pub lines_begin : {l : List ℕ} {k : ℕ} → Wrote l k (lines g (rows_from low high from 0)) l k
  unfolding rows_from lines
  lines_begin = none

  pub lines_go : {l m n : List ℕ} {k at r : ℕ} (i : ℕ) → Wrote l k (lines g (rows_from low high from i)) m at
      → Wrote m at (lines g (row_of (get_or low (from + i) 0) (get_or high (from + i) 0) (from + i))) n r → Wrote l k (lines g (rows_from low high from (i + 1))) n r
  lines_go i f h = rw (rows_one i) (next f h)

  pub lines_room : {l m : List ℕ} {k at : ℕ} (i n : ℕ) → i < n → k + min (length (lines g (rows_from low high from n))) (4096 * n) ≤ length l
      → Wrote l k (lines g (rows_from low high from i)) m at → at ≤ k + 4096 * i
      → at + min (length (lines g (row_of (get_or low (from + i) 0) (get_or high (from + i) 0) (from + i)))) 4096 ≤ length m
  lines_room i n h e f b =
      let z : n - (i + 1) + (i + 1) ≡ n = omega arith in
      let a = rw (rows_one i, length-append) at (rw z at (rows_grow (i + 1) (n - (i + 1)))) in
      omega (arith, a, e, f.place, same_room f)

-- Where nothing is counted there are no lines.
none_counted : (ps : List Pair) → 0 ≡ length ps → ps ≡ []
none_counted [] e = refl
none_counted (p ∷ ps) e = absurd (omega arith)

pub no_lines : (g : Pair → List ℕ) (ps : List Pair) {n : ℕ} → n ≡ length ps → n ≡ 0 → lines g ps ≡ []
unfolding lines
no_lines g ps e z = rw (none_counted ps (omega arith))

-- A line's length, from its head's and its tail's.
blank_length : (h : ℕ) (lens : List ℕ) (j : ℕ) → length (blank h lens j) ≡ h + get_or lens j 0
unfolding blank
blank_length h lens j = length-replicate (h + get_or lens j 0) 0

pub blanks_few : (h : ℕ) (lens : List ℕ) → h ≤ 24 → Short lens → (d j x : ℕ) → length (bit_lines (blank h lens) d j x) ≤ d * 32
blanks_few h lens l s = few_bytes (blank h lens) 32 (λ j. omega (arith, blank_length h lens j, s.few j))

pub blank_first : (h : ℕ) (lens : List ℕ) (j : ℕ) (rest : List ℕ) → length (blank h lens j ++ rest) ≡ h + get_or lens j 0 + length rest
blank_first h lens j rest = rw (length-append, blank_length) (omega arith)

pub line_length : (head lens tails : List ℕ) (j : ℕ) → 8 * j + 8 ≤ length tails → Short lens
    → length (line_at head lens tails j) ≡ length head + get_or lens j 0
unfolding line_at tail_at
line_length head lens tails j c s =
    rw (length-append, length_part (8 * j + 8 - get_or lens j 0) (get_or lens j 0) tails (omega (arith, s.few j))) (omega arith)

-- The line of the first number z of a word x: the head, and the tail of the number.
module _ (from x z y : ℕ) (e : set_bits x ≡ z ∷ set_bits y) (lens : List ℕ) where
  pub first_length : (h : ℕ) → length (bit_lines (blank h lens) 64 from x) ≡ h + get_or lens (from + z) 0 + length (bit_lines (blank h lens) 64 from y)
  first_length h = ap length (first_line (blank h lens) from x z y e) ∙ blank_first h lens (from + z) _

  pub first_room : (head tails : List ℕ) (w r : ℕ) → from + 64 ≤ 128 → length tails ≡ 1024 → Short lens → w + length (bit_lines (line_at head lens tails) 64 from x) ≤ r
      → w + length head + get_or lens (from + z) 0 ≤ r
  first_room head tails w r h o s room =
      let n = line_length head lens tails (from + z) (omega (arith, below_64 _ _ _ e)) s in
      omega (arith, n, rw length-append at (ap length (first_line (line_at head lens tails) from x z y e)))

-- What was written from the start on is the first r bytes.
pub head_made : {l vs m : List ℕ} {r : ℕ} (n : ℕ) → n ≡ r → Wrote l 0 vs m r → length vs ≤ length l → take n m ≡ vs
unfolding part
head_made {l} {vs} n e w h =
    let z : 0 + length vs ≡ length vs = omega arith in
    rw (e, w.bytes, w.place, z) (part_stored vs l 0 (omega arith))

-- The row of access i.
module _ (which : Section) (t : Table) (i low high : ℕ) (lens : List ℕ) (within : Within (seconds which t) low high) where
  pub row_length : {h a b : ℕ} → Lengths which t (seconds which t) lens → h ≡ length (head_of which t i)
      → a ≡ length (bit_lines (blank h lens) 64 0 low) → b ≡ length (bit_lines (blank h lens) 64 64 high) → a + b ≡ length (lines (pair_line which t) (row_of low high i))
  row_length {h} {a} {b} f e p q =
      let u = same_lengths (blank h lens) (λ k. pair_line which t (pair i k)) 64 0 low (λ k l c. each (0 + k) (omega (arith, within.lows k l c))) in
      let v = same_lengths (blank h lens) (λ k. pair_line which t (pair i k)) 64 64 high (λ k l c. each (64 + k) (within.highs k l c)) in
      rw (row_lines (pair_line which t) low high i, length-append) (omega (arith, u, v))
    where
      each : (j : ℕ) → j < seconds which t → length (blank h lens j) ≡ length (pair_line which t (pair i j))
      each j l = rw (line_ends which t i j, length-append) (omega (arith, blank_length h lens j, f.each j l, e))

  pub row_few : Lengths which t (seconds which t) lens → length (head_of which t i) ≤ 24 → length (lines (pair_line which t) (row_of low high i)) ≤ 4096
  row_few f l =
      let h = length (head_of which t i) in
      omega (arith, row_length f refl refl refl, blanks_few h lens l f.short 64 0 low, blanks_few h lens l f.short 64 64 high)

  pub row_text : (head tails : List ℕ) → Tails which t (seconds which t) lens tails → head ≡ head_of which t i
      → lines (pair_line which t) (row_of low high i) ≡ bit_lines (line_at head lens tails) 64 0 low ++ bit_lines (line_at head lens tails) 64 64 high
  row_text head tails f e =
      let u = same_lines (λ k. pair_line which t (pair i k)) (line_at head lens tails) 64 0 low (λ k l c. each (0 + k) (omega (arith, within.lows k l c))) in
      let v = same_lines (λ k. pair_line which t (pair i k)) (line_at head lens tails) 64 64 high (λ k l c. each (64 + k) (within.highs k l c)) in
      row_lines (pair_line which t) low high i ∙ rw (u, v)
    where
      each : (j : ℕ) → j < seconds which t → pair_line which t (pair i j) ≡ line_at head lens tails j
      each j l = line_ends which t i j ∙ (unfold line_at in rw (e, f.each j l))

  -- So where the first n bytes that were written are the head, of at most 24 bytes.
  pub row_whole : {l m : List ℕ} {r : ℕ} (n : ℕ) (tails : List ℕ) → n ≡ r → Wrote l 0 (head_of which t i) m r → r ≤ length l → r ≤ 24 → Lengths which t (seconds which t) lens → Tails which t (seconds which t) lens tails
      → (lines (pair_line which t) (row_of low high i) ≡ bit_lines (line_at (take n m) lens tails) 64 0 low ++ bit_lines (line_at (take n m) lens tails) 64 64 high)
      × (length (lines (pair_line which t) (row_of low high i)) ≤ 4096)
  row_whole {m = m} n tails e w h s g f =
      (row_text (take n m) tails f (head_made n e w (omega (arith, w.place))), row_few g (omega (arith, w.place)))

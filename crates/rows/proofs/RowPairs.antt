-- The pairs of many rows: row by row, few, and those of a test p where the words say what passes p.
-- Assumes nothing.
use Prim.Native.Nat.{ℕ, zero, suc, ◌+◌, ◌*◌, ◌-◌, ◌≤◌, ◌<◌}
use mathlib.Core.Path.{◌≡◌, refl}
use mathlib.Core.Bool.{Bool}
use mathlib.Core.List.{List, ◌++◌}
use native.Mathlib.Numerals.{add-one}
use native.Mathlib.Omega.{arith}
use lib.ListN.{length, get_or, length-append}
use Rattle.rules.specs.Bounded.{pairs, bytes_of}
use Rattle.rules.proofs.FewPairs.{row_few, bytes_length}
use Rattle.rows.specs.Rows.{Row, in_row}
use Rattle.rows.specs.Writing.{Wrote, Counted, row_of, rows_of}
use Rattle.rows.proofs.Written.{none, next, same_room}
use Rattle.rows.proofs.Pairs.{bytes_append, row_words}

row_of_few : (low high i : ℕ) → length (row_of low high i) ≤ 128
unfolding row_of
row_of_few low high i = row_few (λ _ j. in_row low high j) i 128

module _ (low high : List ℕ) where
  pub rows_few : (n : ℕ) → length (rows_of low high n) ≤ 128 * n
  unfolding rows_of
  rows_few zero = omega arith
  rows_few (suc n) = rw length-append (omega (arith, rows_few n, row_of_few (get_or low n 0) (get_or high n 0) n))

  rows_one : (i : ℕ) → rows_of low high (i + 1) ≡ rows_of low high i ++ row_of (get_or low i 0) (get_or high i 0) i
  unfolding rows_of
  rows_one i = rw (add-one i)

  rows_grow : (i d : ℕ) → length (rows_of low high i) ≤ length (rows_of low high (d + i))
  unfolding rows_of
  rows_grow i zero = let z : 0 + i ≡ i = omega arith in rw z (omega arith)
  rows_grow i (suc d) = let z : suc d + i ≡ suc (d + i) = omega arith in rw (z, length-append) (omega (arith, rows_grow i d))

  -- The turns: a row is counted after those before it, and written after them, where there is room for all n.
  pub count_begins : 0 ≡ length (rows_of low high 0)
  unfolding rows_of
  count_begins = refl

  pub count_goes : (i : ℕ) {k r : ℕ} → k ≡ length (rows_of low high i) → Counted (get_or low i 0) (get_or high i 0) r
      → k + r ≡ length (rows_of low high (i + 1))
  count_goes i e c = rw (rows_one i, length-append) (omega (arith, e, c.pairs i))

  pub rows_begin : {l : List ℕ} {k : ℕ} → Wrote l k (bytes_of (rows_of low high 0)) l k
  unfolding rows_of bytes_of
  rows_begin = none

  pub rows_go : {l m n : List ℕ} {k at r : ℕ} (i : ℕ) → Wrote l k (bytes_of (rows_of low high i)) m at
      → Wrote m at (bytes_of (row_of (get_or low i 0) (get_or high i 0) i)) n r → Wrote l k (bytes_of (rows_of low high (i + 1))) n r
  rows_go i f g = rw (rows_one i, bytes_append (rows_of low high i) (row_of (get_or low i 0) (get_or high i 0) i)) (next f g)

  pub rows_room : {l m : List ℕ} {at : ℕ} (i n : ℕ) → i < n → 2 * length (rows_of low high n) ≤ length l
      → Wrote l 0 (bytes_of (rows_of low high i)) m at → at + length (bytes_of (row_of (get_or low i 0) (get_or high i 0) i)) ≤ length m
  rows_room {l} {m} {at} i n h e f =
      let z : n - (i + 1) + (i + 1) ≡ n = omega arith in
      let g = rw z at (rows_grow (i + 1) (n - (i + 1))) in
      let a = rw (rows_one i, length-append) at g in
      let b = bytes_length (rows_of low high i) in
      let c = bytes_length (row_of (get_or low i 0) (get_or high i 0) i) in
      omega (arith, a, b, c, e, f.place, same_room f)

-- Words that say which of m numbers pass p hold the pairs of p.
module _ (p : ℕ → ℕ → Bool) (m : ℕ) (few : m ≤ 128) (low high : List ℕ) where
  pub rows_words : (n : ℕ) → ((i : ℕ) → i < n → Row 64 (p i) 0 m (get_or low i 0)) → ((i : ℕ) → i < n → Row 64 (p i) 64 m (get_or high i 0))
      → rows_of low high n ≡ pairs p n m
  unfolding rows_of pairs
  rows_words zero f g = refl
  rows_words (suc n) f g =
      rw (rows_words n (λ i h. f i (omega arith)) (λ i h. g i (omega arith)), row_words p n m (get_or low n 0) (get_or high n 0) few (f n (omega arith)) (g n (omega arith)))

-- The pairs of rows of words, as bytes.
-- Assumes nothing.
use Rattle.std.specs.Prelude.{ℕ, zero, suc, ◌+◌, ◌/◌, ◌%◌, ◌≡◌, cond, List, [], ◌∷◌, ◌++◌, eqb, length, get_or}
use Rattle.std.proofs.lemmas.List.Edits.{sets}
use Rattle.rules.specs.Bounded.{Pair, row}
use Rattle.rows.specs.Rows.{in_row}

-- The bytes vs were written into the buffer l from place k on: it now holds m, and r is the place after them. A byte past the end is not
-- written, and the place moves on all the same.
pub record Wrote (l : List ℕ) (k : ℕ) (vs : List ℕ) (m : List ℕ) (r : ℕ) : Type 0 where
  pub bytes : m ≡ sets l k vs
  pub place : r ≡ k + length vs

-- The pairs of i with the numbers of the row of two words.
unfoldable pub row_of : ℕ → ℕ → ℕ → List Pair
row_of low high i = row (λ _ j. in_row low high j) i 128

-- The pairs of the first n rows of two words each, by row.
unfoldable pub rows_of : List ℕ → List ℕ → ℕ → List Pair
rows_of low high zero = []
rows_of low high (suc n) = rows_of low high n ++ row_of (get_or low n 0) (get_or high n 0) n

-- There are r pairs, whatever the first number.
pub record Counted (low high r : ℕ) : Type 0 where
  pub pairs : (i : ℕ) → r ≡ length (row_of low high i)

-- The pairs of i with the set bits of x, of d bits, that stand from j on.
unfoldable pub bit_pairs : ℕ → ℕ → ℕ → ℕ → List ℕ
bit_pairs zero i j x = []
bit_pairs (suc d) i j x = cond (eqb (x % 2) 1) (i ∷ j ∷ bit_pairs d i (j + 1) (x / 2)) (bit_pairs d i (j + 1) (x / 2))

-- The pairs of i with the n numbers from j on.
unfoldable pub run_pairs : ℕ → ℕ → ℕ → List ℕ
run_pairs i j zero = []
run_pairs i j (suc n) = i ∷ j ∷ run_pairs i (j + 1) n

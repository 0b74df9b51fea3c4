-- The lines of the listing as the room makes them: a head that all lines of a first number share, a tail that all lines with a second number
-- share, and the lines of a word's set bits.
-- Assumes nothing.
use Rattle.std.specs.Prelude.{ℕ, zero, suc, ◌+◌, ◌*◌, ◌-◌, ◌/◌, ◌%◌, ◌<◌, ◌≤◌, ◌≡◌, true, cond, List, [], ◌∷◌, ◌++◌, eqb, length, get_or, replicate}
use Rattle.rules.specs.Bounded.{Pair}
use Rattle.rules.specs.Table.{Table}
use Rattle.rules.specs.Locks.{in_set}
use Rattle.rules.specs.Quoted.{codes}
use Rattle.rules.specs.Listing.{decimal, fields, line, race_line, illegal_line}
use Rattle.rows.specs.Writing.{row_of}
use Rattle.store.specs.Parts.{part}
use Rattle.lines.specs.declared.Section.{Section}
use Rattle.lines.specs.declared.Section.TheVariants.{Races, Illegals}

-- The line of a pair: of a race, or of an illegal lock.
unfoldable pub pair_line : Section → Table → Pair → List ℕ
pair_line Races = race_line
pair_line Illegals = illegal_line

-- What each line of access i begins with.
unfoldable pub head_of : Section → Table → ℕ → List ℕ
head_of Races t i = codes "race" ++ fields (t.label (t.resource_of i) ∷ i ∷ t.task_of i ∷ []) ++ codes " "
head_of Illegals t i = codes "illegal" ++ fields (i ∷ t.task_of i ∷ []) ++ codes " "

-- What each line with the access, or the lock, j ends with.
unfoldable pub tail_of : Section → Table → ℕ → List ℕ
tail_of Races t j = decimal j ++ line [] (t.task_of j ∷ [])
tail_of Illegals t j = decimal j ++ line [] []

-- How many second numbers there are: accesses, or locks.
unfoldable pub seconds : Section → Table → ℕ
seconds Races t = t.accesses
seconds Illegals t = t.locks

-- The tail of j is at the end of its eight bytes of tails.
unfoldable pub tail_at : List ℕ → List ℕ → ℕ → List ℕ
tail_at lens tails j = part (8 * j + 8 - get_or lens j 0) (get_or lens j 0) tails

-- The head, and then the tail of j.
unfoldable pub line_at : List ℕ → List ℕ → List ℕ → ℕ → List ℕ
line_at head lens tails j = head ++ tail_at lens tails j

-- A text as long as that line, where the head has h bytes.
unfoldable pub blank : ℕ → List ℕ → ℕ → List ℕ
blank h lens j = replicate (h + get_or lens j 0) 0

-- The line of each set bit of x, of d bits, that stand from j on.
unfoldable pub bit_lines : (ℕ → List ℕ) → ℕ → ℕ → ℕ → List ℕ
bit_lines f zero j x = []
bit_lines f (suc d) j x = cond (eqb (x % 2) 1) (f j ++ bit_lines f d (j + 1) (x / 2)) (bit_lines f d (j + 1) (x / 2))

-- No tail has more than eight bytes.
pub record Short (lens : List ℕ) : Type 0 where
  pub few : (j : ℕ) → get_or lens j 0 ≤ 8

-- The lengths of the tails of the numbers below n.
pub record Lengths (which : Section) (t : Table) (n : ℕ) (lens : List ℕ) : Type 0 where
  pub short : Short lens
  pub each : (j : ℕ) → j < n → get_or lens j 0 ≡ length (tail_of which t j)

-- The tails of the numbers below n, of these lengths.
pub record Tails (which : Section) (t : Table) (n : ℕ) (lens tails : List ℕ) : Type 0 where
  pub sized : length tails ≡ 1024
  pub each : (j : ℕ) → j < n → tail_at lens tails j ≡ tail_of which t j

-- The numbers of a row of two words are below m.
pub record Within (m low high : ℕ) : Type 0 where
  pub lows : (j : ℕ) → j < 64 → in_set j low ≡ true → j < m
  pub highs : (j : ℕ) → j < 64 → in_set j high ≡ true → 64 + j < m

-- So are those of each row of the accesses.
pub record RowsWithin (which : Section) (t : Table) (low high : List ℕ) : Type 0 where
  pub each : (i : ℕ) → i < t.accesses → Within (seconds which t) (get_or low i 0) (get_or high i 0)

-- The pairs of n rows from the row `from` on, by row.
unfoldable pub rows_from : List ℕ → List ℕ → ℕ → ℕ → List Pair
rows_from low high from zero = []
rows_from low high from (suc n) = rows_from low high from n ++ row_of (get_or low (from + n) 0) (get_or high (from + n) 0) (from + n)

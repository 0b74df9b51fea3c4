-- Tests, sums and lists of pairs over the numbers below a bound, each built upwards, as a loop goes.
-- Assumes nothing.
use Rattle.std.specs.Prelude.{ℕ, zero, suc, Bool, true, false, ◌&&◌, ◌||◌, cond, List, [], ◌∷◌, ◌++◌}

-- p holds at every number below n.
unfoldable pub all_below : ℕ → (ℕ → Bool) → Bool
all_below zero p = true
all_below (suc n) p = all_below n p && p n

-- p holds at some number below n.
unfoldable pub some_below : ℕ → (ℕ → Bool) → Bool
some_below zero p = false
some_below (suc n) p = some_below n p || p n

-- An ordered pair of numbers.
pub record Pair : Type 0 where
  pub one : ℕ
  pub two : ℕ

-- The pairs (i, j), j below m, that pass, by j.
unfoldable pub row : (ℕ → ℕ → Bool) → ℕ → ℕ → List Pair
row p i zero = []
row p i (suc m) = row p i m ++ cond (p i m) (record { one = i; two = m } ∷ []) []

-- The pairs (i, j), i below n and j below m, that pass, by first number and then second.
unfoldable pub pairs : (ℕ → ℕ → Bool) → ℕ → ℕ → List Pair
pairs p zero m = []
pairs p (suc n) m = pairs p n m ++ row p n m

-- Two bytes a pair.
unfoldable pub bytes_of : List Pair → List ℕ
bytes_of [] = []
bytes_of (p ∷ ps) = p.one ∷ p.two ∷ bytes_of ps

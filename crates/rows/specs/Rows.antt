-- Rows of the race matrix as words of 64 bits: the accesses 0 to 63 in one word, 64 to 127 in another.
-- Assumes nothing.
use Rattle.std.specs.Prelude.{ℕ, ◌+◌, ◌-◌, ◌^◌, ◌<◌, ◌≤◌, ◌≡◌, Bool, ◌&&◌, cond, List, ltb, length, get_or}
use Rattle.rules.specs.Locks.{in_set}

-- The w bits of a word say which of the numbers from b on are below n and pass p.
pub record Row (w : ℕ) (p : ℕ → Bool) (b n word : ℕ) : Type 0 where
  pub fits : word < 2 ^ w
  pub bits : (j : ℕ) → j < w → in_set j word ≡ (ltb (b + j) n && p (b + j))

-- The words past the first m are as they were, and there are as many.
pub record Kept (m : ℕ) (rows₀ rows : List ℕ) : Type 0 where
  pub sized : length rows ≡ length rows₀
  pub words : (i : ℕ) → m ≤ i → get_or rows i 0 ≡ get_or rows₀ i 0

-- Number j is in the row of two words.
unfoldable pub in_row : ℕ → ℕ → ℕ → Bool
in_row low high j = cond (ltb j 64) (in_set j low) (in_set (j - 64) high)

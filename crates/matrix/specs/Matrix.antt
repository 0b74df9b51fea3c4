-- The race matrix, and the illegal locks, as rows of words.
-- Assumes nothing.
use Rattle.std.specs.Prelude.{ℕ, ◌<◌, List, get_or}
use Rattle.rules.specs.Table.{Table}
use Rattle.rules.specs.Races.{race, illegal}
use Rattle.rows.specs.Rows.{Row, Kept}

-- The words of each access say which accesses it races with; those past the accesses are as they were.
pub record RaceRows (t : Table) (low₀ high₀ low high : List ℕ) : Type 0 where
  pub lows : (i : ℕ) → i < t.accesses → Row 64 (race t i) 0 t.accesses (get_or low i 0)
  pub highs : (i : ℕ) → i < t.accesses → Row 64 (race t i) 64 t.accesses (get_or high i 0)
  pub low_kept : Kept t.accesses low₀ low
  pub high_kept : Kept t.accesses high₀ high

-- The word of each access says which locks are illegal for it; those past the accesses are as they were.
pub record IllegalRows (t : Table) (rows₀ rows : List ℕ) : Type 0 where
  pub words : (i : ℕ) → i < t.accesses → Row 32 (illegal t i) 0 t.locks (get_or rows i 0)
  pub kept : Kept t.accesses rows₀ rows

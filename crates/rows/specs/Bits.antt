-- The numbers of the set bits of a word.
-- Assumes nothing.
use Rattle.std.specs.Prelude.{ℕ, zero, suc, ◌+◌, ◌/◌, ◌%◌, cond, List, [], ◌∷◌, eqb}

-- The numbers of the set bits of x, of d bits, lowest first, bit 0 being number j.
unfoldable pub bits_from : ℕ → ℕ → ℕ → List ℕ
bits_from zero j x = []
bits_from (suc d) j x = cond (eqb (x % 2) 1) (j ∷ bits_from d (j + 1) (x / 2)) (bits_from d (j + 1) (x / 2))

-- Those of a word of 64 bits.
unfoldable pub set_bits : ℕ → List ℕ
set_bits x = bits_from 64 0 x

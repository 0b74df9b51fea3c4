-- A quoted text as its bytes: the codes of its characters, where all are ASCII.
-- Assumes nothing.
use Rattle.std.specs.Prelude.{ℕ, List, [] as nil, ◌∷◌ as ◌then◌}
use Prim.Native.Char.{code}
use Prim.Native.String.{String, [], ◌∷◌}

abbrev pub codes : String → List ℕ
codes [] = nil
codes (c ∷ s) = code c then codes s

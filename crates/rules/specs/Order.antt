-- The order of a list of pairs.
-- Assumes nothing.
use Rattle.std.specs.Prelude.{◌<◌, ◌≡◌, ◌⊎◌}
use mathlib.Core.List.{List, [], ◌∷◌, Memᴰ}
use Rattle.rules.specs.Bounded.{Pair}

-- p comes before q: by first number and then second.
abbrev pub Earlier : Pair → Pair → Type 0
Earlier p q = (p.one < q.one) ⊎ ((p.one ≡ q.one) × (p.two < q.two))

-- Each pair comes before all that follow: the list is in order, and has each pair once.
abbrev pub Rising : List Pair → Type 0
Rising [] = Unit {0}
Rising (p ∷ ps) = ((q : Pair) → Memᴰ q ps → Earlier p q) × Rising ps

-- The turns of the room's loops: what is left of a word and of numbers is its first, and then what is left after it.
-- Assumes nothing.
use Prim.Native.Nat.{ℕ, ◌+◌, ◌<◌, ◌≤◌}
use mathlib.Core.Path.{◌≡◌}
use mathlib.Core.List.{List, [], ◌∷◌, ◌++◌}
use native.Mathlib.Numerals.{add-one}
use lib.ListN.{length, drop, get_or, drop_of_length-le}
use lib.Seq.{drop-cons}
use Rattle.rules.specs.Quoted.{codes}
use Rattle.rules.specs.Listing.{decimal, fields}

pub word_turn : (s : List ℕ) (i : ℕ) → i < length s → drop i s ≡ (get_or s i 0 ∷ []) ++ drop (i + 1) s
word_turn s i h = rw (add-one i, drop-cons s i 0 h)

pub word_end : (s : List ℕ) (i : ℕ) → length s ≤ i → drop i s ≡ []
word_end s i h = drop_of_length-le s h

pub fields_turn : (s : List ℕ) (i : ℕ) → i < length s
    → fields (drop i s) ≡ (codes " " ++ decimal (get_or s i 0)) ++ fields (drop (i + 1) s)
unfolding fields
fields_turn s i h = rw (word_turn s i h)

pub fields_end : (s : List ℕ) (i : ℕ) → length s ≤ i → fields (drop i s) ≡ []
unfolding fields
fields_end s i h = rw (word_end s i h)

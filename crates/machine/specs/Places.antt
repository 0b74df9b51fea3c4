-- The byte that stands at a place.
-- Assumes nothing.
use Rattle.std.specs.Prelude.{ℕ, ◌≡◌}
use Rattle.rules.specs.Machine.{idle, outside, inside}
use Rattle.machine.specs.declared.places.Place.{Place}
use Rattle.machine.specs.declared.places.Place.TheVariants.{Idle, Outside, Inside}

unfoldable pub byte_of : Place → ℕ
byte_of Idle = idle
byte_of Outside = outside
byte_of (Inside i) = inside i

-- The place that a byte says.
abbrev pub IsPlace : ℕ → Place → Type 0
IsPlace n p = byte_of p ≡ n

-- What is still to be written is the fields of the numbers that are left; a turn writes a space and a number.
use Prim.Native.Nat.{◌≤◌, ◌+◌, ◌*◌}
use mathlib.Core.Path.{◌≡◌}
use lib.ListN.{drop}
use Rattle.rules.specs.Listing.{fields}
use Rattle.rows.proofs.Pairs.{StillWrites}
use Rattle.text.proofs.Pen.fields.Given as goal

abbrev pub invariant-loop-n : goal.invariant-loop-n
invariant-loop-n l = (l.self.at ≤ l.initial.self.at + 21 * l.n-index) × (l.self.out.ghost_name ≡ l.initial.self.out.ghost_name) × StillWrites l.initial.self.out.now l.initial.self.at (fields l.ns) l.self.out.now l.self.at (fields (drop l.n-index l.ns))

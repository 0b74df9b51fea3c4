-- What is still to be written is what is left of the word.
use Prim.Native.Nat.{◌+◌}
use mathlib.Core.Path.{◌≡◌}
use lib.ListN.{drop}
use Rattle.rows.proofs.Pairs.{StillWrites}
use Rattle.text.proofs.Pen.word.Given as goal

abbrev pub invariant-loop-b : goal.invariant-loop-b
invariant-loop-b l = (l.self.at ≡ l.initial.self.at + l.b-index) × (l.self.out.ghost_name ≡ l.initial.self.out.ghost_name) × StillWrites l.initial.self.out.now l.initial.self.at l.word l.self.out.now l.self.at (drop l.b-index l.word)

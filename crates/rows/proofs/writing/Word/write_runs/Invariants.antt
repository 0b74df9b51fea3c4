use Rattle.rows.specs.Writing.{bit_pairs}
use Rattle.rows.proofs.Pairs.{StillWrites}
use Prim.Native.Nat.{◌≤◌, ◌<◌, ◌+◌, ◌-◌, ◌^◌}
use Rattle.rows.proofs.writing.Word.write_runs.Given as goal

abbrev pub invariant-loop-x : goal.invariant-loop-x
invariant-loop-x l = (l.self.from ≤ l.j) × (l.j ≤ l.self.from + 64) × (l.x < 2 ^ (l.self.from + 64 - l.j)) × (StillWrites l.initial.out l.at (bit_pairs 64 l.self.i l.self.from l.self.bits) l.out l.k (bit_pairs (l.self.from + 64 - l.j) l.self.i l.j l.x))

abbrev pub decreases-loop-x : goal.decreases-loop-x
decreases-loop-x l = l.self.from + 64 - l.j

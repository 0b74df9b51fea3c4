use Rattle.rows.specs.Writing.{bit_pairs}
use Rattle.rows.proofs.Pairs.{StillWrites}
use Rattle.rows.proofs.writing.Word.write_bits.Given as goal

abbrev pub invariant-loop-j : goal.invariant-loop-j
invariant-loop-j l = StillWrites l.initial.out l.at (bit_pairs 64 l.self.i l.self.from l.self.bits) l.out l.k (bit_pairs 64 l.self.i l.self.from l.j-iterator.left)

-- What is still to be written is the lines of the numbers that are left; a turn stores the line of the number that comes.
use Rattle.lines.specs.Lines.{bit_lines, line_at}
use Rattle.rows.proofs.Pairs.{StillWrites}
use Rattle.lines.proofs.ends.Ends.put_bits.Given as goal

abbrev pub invariant-loop-bit : goal.invariant-loop-bit
invariant-loop-bit l = StillWrites l.initial.out l.k (bit_lines (line_at l.head l.self.measured.lens.now l.self.tails.now) 64 l.from l.word) l.out l.w (bit_lines (line_at l.head l.self.measured.lens.now l.self.tails.now) 64 l.from l.bit-iterator.left)

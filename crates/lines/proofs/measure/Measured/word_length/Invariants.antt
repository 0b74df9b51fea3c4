-- What is counted, and the lines of the numbers that are left, are the whole.
use Prim.Native.Nat.{◌+◌}
use mathlib.Core.Path.{◌≡◌}
use lib.ListN.{length}
use Rattle.lines.specs.Lines.{bit_lines, blank}
use Rattle.lines.proofs.measure.Measured.word_length.Given as goal

abbrev pub invariant-loop-j : goal.invariant-loop-j
invariant-loop-j l = l.sum + length (bit_lines (blank l.h l.self.lens.now) 64 l.from l.j-iterator.left) ≡ length (bit_lines (blank l.h l.self.lens.now) 64 l.from l.word)

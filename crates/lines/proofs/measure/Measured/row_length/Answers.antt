-- The lines of a row are those of its two words.
use native.Mathlib.Omega.{arith}
use Rattle.table.proofs.Shown.{accesses_shown}
use Rattle.lines.proofs.RowLines.{no_lines, row_length}
use Rattle.lines.proofs.measure.Measured.row_length.Goals as goal

pub returns-then-count_row-eq0 : goal.returns-then-count_row-eq0
returns-then-count_row-eq0 c = (rw (no_lines _ _ (c.count_row.ensures.pairs _) c.if-count_row-eq0.true), omega arith)

pub returns : goal.returns
returns c =
    let pairs = c.args.self.now.pairs in
    (row_length _ _ _ _ _ _ (pairs.within.each c.args.i (rw accesses_shown c.requires)) c.args.self.now.lengths c.head_length-h.ensures.0 c.word_length.ensures.0 c.word_length-2.ensures.0, omega (arith, c.word_length.ensures.1, c.word_length-2.ensures.1))

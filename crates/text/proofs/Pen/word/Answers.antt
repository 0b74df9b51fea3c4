-- A byte is what comes next of the word that is left.
use native.Mathlib.Omega.{arith}
use mathlib.Core.Path.{◌∙◌}
use Rattle.rows.proofs.Pairs.{writes_piece, writes_end}
use Rattle.text.proofs.Turns.{word_turn, word_end}
use Rattle.text.proofs.Pen.word.Goals as goal

pub loop-b-preserved : goal.loop-b-preserved
loop-b-preserved c =
    (omega arith, c.put.ensures.0.1 ∙ c.loop-b.invariant.1, writes_piece c.loop-b.invariant.2 (word_turn _ _ c.loop-b-test.true) c.put.ensures.0.0)

pub returns : goal.returns
returns c = ((writes_end c.loop-b.invariant.2 (word_end _ _ c.loop-b-test.false), c.loop-b.invariant.1), omega arith)

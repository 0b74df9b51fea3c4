-- A number and the space before it are what comes next of the fields that are left.
use native.Mathlib.Omega.{arith}
use mathlib.Core.Path.{◌∙◌}
use Rattle.rows.proofs.Written.{next}
use Rattle.rows.proofs.Pairs.{writes_piece, writes_end}
use Rattle.text.proofs.Turns.{fields_turn, fields_end}
use Rattle.text.proofs.Pen.fields.Goals as goal

pub loop-n-preserved : goal.loop-n-preserved
loop-n-preserved c =
    (omega arith, c.number.ensures.0.1 ∙ c.put.ensures.0.1 ∙ c.loop-n.invariant.1, writes_piece c.loop-n.invariant.2 (fields_turn _ _ c.loop-n-test.true) (next c.put.ensures.0.0 c.number.ensures.0.0))

pub returns : goal.returns
returns c = ((writes_end c.loop-n.invariant.2 (fields_end _ _ c.loop-n-test.false), c.loop-n.invariant.1), omega arith)

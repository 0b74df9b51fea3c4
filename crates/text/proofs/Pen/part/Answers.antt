use native.Mathlib.Omega.{arith}
use mathlib.Core.Path.{◌∙◌}
use Rattle.rows.proofs.Written.{next}
use Rattle.text.proofs.Pen.part.Goals as goal

pub returns : goal.returns
returns c =
    ((next c.word.ensures.0.0 c.fields.ensures.0.0, c.fields.ensures.0.1 ∙ c.word.ensures.0.1), omega arith)

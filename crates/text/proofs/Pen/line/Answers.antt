use native.Mathlib.Omega.{arith}
use mathlib.Core.Path.{◌∙◌}
use Rattle.rules.specs.Listing.{line}
use Rattle.rows.proofs.Written.{next}
use Rattle.text.proofs.Pen.line.Goals as goal

pub returns : goal.returns
unfolding line
returns c =
    ((next c.part.ensures.0.0 c.put.ensures.0.0, c.put.ensures.0.1 ∙ c.part.ensures.0.1), omega arith)

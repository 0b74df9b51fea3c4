-- The tail is the number, and what comes after it in the line.
use mathlib.Core.Path.{◌∙◌}
use Rattle.rules.specs.Listing.{fields, line}
use Rattle.rows.proofs.Written.{next}
use Rattle.lines.specs.Lines.{tail_of}
use Rattle.lines.proofs.Pairs.put_tail.Goals as goal

pub returns-in-Races : goal.returns-in-Races
unfolding tail_of
returns-in-Races c =
    rw (c.in-Races.is, ← c.task_of.ensures.0) (next c.number.ensures.0.0 c.line.ensures.0.0, c.line.ensures.0.1 ∙ c.number.ensures.0.1)

pub returns-in-Illegals : goal.returns-in-Illegals
unfolding tail_of line fields
returns-in-Illegals c =
    rw c.in-Illegals.is (next c.number.ensures.0.0 c.put.ensures.0.0, c.put.ensures.0.1 ∙ c.number.ensures.0.1)

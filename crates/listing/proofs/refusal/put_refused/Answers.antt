-- The line is its two parts, one after the other.
use borrow.Author.Rules.{rules}
use mathlib.Core.List.{[], ◌∷◌}
use Rattle.rules.specs.Quoted.{codes}
use Rattle.rules.specs.Listing.{line, refused_line}
use Rattle.rows.proofs.Written.{next}
use Rattle.listing.proofs.refusal.put_refused.Goals as goal

pub returns : goal.returns
unfolding refused_line
returns c =
    let place = line (codes " at") (c.args.f.place ∷ []) in
    rw (← c.number-number.ensures) (next {ys = place} (rw (c.new-pen.ensures.1, c.new-pen.ensures.2) at c.part.ensures.0.0) (search rules))

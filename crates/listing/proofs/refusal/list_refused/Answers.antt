-- The first run, over an empty buffer, says how many bytes the line has; the second writes them where they fit.
use Rattle.listing.proofs.Leaves.{too_short, fits, counted}
use Rattle.listing.proofs.refusal.list_refused.Goals as goal

pub returns-then-out-need : goal.returns-then-out-need
returns-then-out-need c = too_short _ _ (counted c.put_refused-need.ensures) _ c.at.ensures c.if-out-need.true

pub returns : goal.returns
returns c =
    fits _ _ (counted c.put_refused-need.ensures) c.if-out-need.false c.put_refused.ensures

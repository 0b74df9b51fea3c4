-- The numbers of the rows that were found are those of accesses, or of locks.
use Rattle.std.proofs.Common.{◌∙◌}
use Rattle.listing.proofs.RowsFound.{race_within, illegal_within}
use Rattle.findings.proofs.write_table.Goals as goal

pub invariant_of-races : goal.invariant_of-races
invariant_of-races g c = record { accepted = c.args.t.now.accepted; within = race_within _ c.race_rows.ensures }

pub invariant_of-illegals : goal.invariant_of-illegals
invariant_of-illegals g c =
    record { accepted = c.args.t.now.accepted; within = illegal_within _ c.illegal_rows.ensures.0 (c.illegal_rows.ensures.1 ∙ c.empty-illegals.ensures.1) }

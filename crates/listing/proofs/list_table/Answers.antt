-- The rows that were found hold the races and the illegal pairs of the table. The room is the sum of the two sections, and each is written where
-- the one before it ends.
use mathlib.Core.Path.{sym, ◌∙◌}
use Rattle.table.proofs.Shown.{accesses_shown}
use Rattle.lines.proofs.SectionTexts.{text_counted, text_wrote}
use Rattle.listing.proofs.Leaves.{too_short, fits}
use Rattle.listing.proofs.RowsFound.{race_within, illegal_within, text_found}
use Rattle.listing.proofs.list_table.Goals as goal

pub invariant_of-races : goal.invariant_of-races
invariant_of-races c = record { accepted = c.args.t.now.accepted; within = race_within _ c.race_rows.ensures }

pub invariant_of-illegals : goal.invariant_of-illegals
invariant_of-illegals c =
    record { accepted = c.args.t.now.accepted; within = illegal_within _ c.illegal_rows.ensures.0 (c.illegal_rows.ensures.1 ∙ c.empty-illegals.ensures.1) }

pub returns-then-out-need : goal.returns-then-out-need
returns-then-out-need c =
    let found = text_found _ c.args.t.now.accepted (sym (accesses_shown _)) c.race_rows.ensures c.illegal_rows.ensures.0 (c.illegal_rows.ensures.1 ∙ c.empty-illegals.ensures.1) in
    rw (← found) (too_short _ _ (text_counted _ _ _ c.section_length-first.ensures.0 c.section_length.ensures.0) _ c.at.ensures c.if-out-need.true)

pub returns : goal.returns
returns c =
    let found = text_found _ c.args.t.now.accepted (sym (accesses_shown _)) c.race_rows.ensures c.illegal_rows.ensures.0 (c.illegal_rows.ensures.1 ∙ c.empty-illegals.ensures.1) in
    rw (← found) (fits _ _ (text_counted _ _ _ c.section_length-first.ensures.0 c.section_length.ensures.0) c.if-out-need.false (text_wrote _ _ _ c.put_section-w.ensures c.put_section.ensures))

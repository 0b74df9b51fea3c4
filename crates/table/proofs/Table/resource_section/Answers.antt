use Rattle.table.proofs.Results.{goes_out}
use Rattle.table.specs.Answers.{checked, number, numbered}
use Rattle.table.proofs.SectionLaws.{count_stops, resources_short, resources_pass}
use Rattle.rules.specs.Reading.{resource_section}
use Rattle.table.proofs.Table.resource_section.Goals as goal

pub returns-in_err-check_count : goal.returns-in_err-check_count
unfolding resource_section
returns-in_err-check_count c =
    rw (goes_out _ _ c.from_residual.ensures.1) (count_stops _ _ _ _ (rw c.resources_at.ensures.0 at c.in_err-check_count.ensures))

pub returns-then-self-accesses_at : goal.returns-then-self-accesses_at
unfolding checked number numbered
returns-then-self-accesses_at c =
    rw c.at.ensures
    (resources_short _ _ _ (rw c.resources_at.ensures.0 at c.in_ok-check_count.ensures) (rw c.accesses_at.ensures.0 at c.if-self-accesses_at.true))

pub returns : goal.returns
unfolding checked
returns c =
    resources_pass _ _ _ (rw c.resources_at.ensures.0 at c.in_ok-check_count.ensures) (rw c.accesses_at.ensures.0 at c.if-self-accesses_at.false)

-- Section after section: those before the first fault pass, and it is the answer; where all pass, the table is the one that stands in the bytes.
use Rattle.table.proofs.Results.{goes_out}
use mathlib.Core.Path.{◌≡◌, sym}
use Rattle.rules.specs.Reading.{read, Is, counts_in, table_at}
use Rattle.table.specs.Answers.{shown}
use Rattle.table.specs.Read.{told}
use Rattle.table.proofs.Chain.{after, ends, refused, is_read, kept, whole}
use Rattle.table.proofs.Table.read.Goals as goal

pub returns-in_err-form_section-clause-table : goal.returns-in_err-form_section-clause-table
unfolding told
returns-in_err-form_section-clause-table c =
    rw (goes_out _ _ c.from_residual.ensures.1)
    (refused c.args.bytes c.counted-table.result c.counted-table.ensures _
    (ends _ _ _ c.in_err-form_section.ensures))

pub returns-in_err-node_section-clause-table : goal.returns-in_err-node_section-clause-table
unfolding told
returns-in_err-node_section-clause-table c =
    rw (goes_out _ _ c.from_residual-in_err-node_section.ensures.1)
    (refused c.args.bytes c.counted-table.result c.counted-table.ensures _
    (after _ _ _ _ c.in_ok-form_section.ensures
    (ends _ _ _ c.in_err-node_section.ensures)))

pub returns-in_err-lock_section-clause-table : goal.returns-in_err-lock_section-clause-table
unfolding told
returns-in_err-lock_section-clause-table c =
    rw (goes_out _ _ c.from_residual-in_err-lock_section.ensures.1)
    (refused c.args.bytes c.counted-table.result c.counted-table.ensures _
    (after _ _ _ _ c.in_ok-form_section.ensures
    (after _ _ _ _ c.in_ok-node_section.ensures
    (ends _ _ _ c.in_err-lock_section.ensures))))

pub returns-in_err-resource_section-clause-table : goal.returns-in_err-resource_section-clause-table
unfolding told
returns-in_err-resource_section-clause-table c =
    rw (goes_out _ _ c.from_residual-in_err-resource_section.ensures.1)
    (refused c.args.bytes c.counted-table.result c.counted-table.ensures _
    (after _ _ _ _ c.in_ok-form_section.ensures
    (after _ _ _ _ c.in_ok-node_section.ensures
    (after _ _ _ _ c.in_ok-lock_section.ensures
    (ends _ _ _ c.in_err-resource_section.ensures)))))

pub returns-in_err-access_section-clause-table : goal.returns-in_err-access_section-clause-table
unfolding told
returns-in_err-access_section-clause-table c =
    rw (goes_out _ _ c.from_residual-in_err-access_section.ensures.1)
    (refused c.args.bytes c.counted-table.result c.counted-table.ensures _
    (after _ _ _ _ c.in_ok-form_section.ensures
    (after _ _ _ _ c.in_ok-node_section.ensures
    (after _ _ _ _ c.in_ok-lock_section.ensures
    (after _ _ _ _ c.in_ok-resource_section.ensures
    (ends _ _ _ c.in_err-access_section.ensures))))))

pub returns-in_err-end_section-clause-table : goal.returns-in_err-end_section-clause-table
unfolding told
returns-in_err-end_section-clause-table c =
    rw (goes_out _ _ c.from_residual-in_err-end_section.ensures.1)
    (refused c.args.bytes c.counted-table.result c.counted-table.ensures _
    (after _ _ _ _ c.in_ok-form_section.ensures
    (after _ _ _ _ c.in_ok-node_section.ensures
    (after _ _ _ _ c.in_ok-lock_section.ensures
    (after _ _ _ _ c.in_ok-resource_section.ensures
    (after _ _ _ _ c.in_ok-access_section.ensures
    c.in_err-end_section.ensures))))))

-- The bytes are the table that stands in them.
pub returns-clause-table : goal.returns-clause-table
unfolding told
returns-clause-table c =
    is_read c.args.bytes c.counted-table.result c.counted-table.ensures _
    (after _ _ _ _ c.in_ok-form_section.ensures
    (after _ _ _ _ c.in_ok-node_section.ensures
    (after _ _ _ _ c.in_ok-lock_section.ensures
    (after _ _ _ _ c.in_ok-resource_section.ensures
    (after _ _ _ _ c.in_ok-access_section.ensures
    c.in_ok-end_section.ensures)))))

pub invariant_of-result : goal.invariant_of-result
unfolding counts_in shown table_at
invariant_of-result c =
    let q : read c.args.bytes.now ≡ Is (shown c.counted-table.result) = sym (is_read c.args.bytes c.counted-table.result c.counted-table.ensures _
    (after _ _ _ _ c.in_ok-form_section.ensures
    (after _ _ _ _ c.in_ok-node_section.ensures
    (after _ _ _ _ c.in_ok-lock_section.ensures
    (after _ _ _ _ c.in_ok-resource_section.ensures
    (after _ _ _ _ c.in_ok-access_section.ensures
    c.in_ok-end_section.ensures)))))) in
    record {
      accepted = kept c.args.bytes c.counted-table.result c.counted-table.ensures q;
      stands = whole c.args.bytes c.counted-table.result c.counted-table.ensures q;
    }

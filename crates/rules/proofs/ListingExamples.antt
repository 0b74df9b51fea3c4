-- Worked examples of the listing, closed by computation: table W of document 01, refused tables, the room that W's listing takes, and what W
-- does not show: an illegal pair, and numbers of other lengths.
-- Assumes nothing.
use Prim.Native.Nat.{ℕ}
use mathlib.Core.Path.{◌≡◌, refl}
use mathlib.Core.List.{List, []}
use lib.ListN.{take, set}
use Rattle.rules.specs.Bounded.{some_below, row, pairs}
use Rattle.rules.specs.Table.{is_task, is_scheduler, is_child}
use Rattle.rules.specs.Reading.{read, concluded, first_fault, form_section, node_section, lock_section, resource_section, access_section, end_section, count_check, node_check, lock_check, resource_check, access_check, node_fault, lock_fault, access_fault, counts_in, parent_right, covered_right, due, each, unless, ◌and_then◌, table_of, counts_of, table_at}
use Rattle.rules.specs.Preemption.{climbs_to, at_or_below, is_ancestor, nearest_above, nearest_common, climbs_under, child_above, allows, may_preempt}
use Rattle.rules.specs.Locks.{in_set, covers, masked, blocked}
use Rattle.rules.specs.Races.{race, illegal, races, illegals}
use Rattle.rules.specs.Calls.{Value, Refusal, refusing, writing, reading}
use Rattle.rules.specs.Quoted.{codes}
use Rattle.rules.specs.Listing.{digits, decimal, fields, line, race_line, illegal_line, lines, section, text, listing, refused_line, findings, writing_text, listing_call}
use Rattle.rules.proofs.Examples.{table_w}

-- To unfold this is to unfold all that it takes to read, to list and to write.
to_write : List ℕ → List ℕ
unfolding table_w read concluded first_fault form_section node_section lock_section resource_section access_section end_section count_check node_check lock_check resource_check access_check node_fault lock_fault access_fault counts_in parent_right covered_right due each unless ◌and_then◌ table_of counts_of table_at is_task is_scheduler is_child pairs row race illegal races illegals may_preempt allows child_above climbs_under nearest_common nearest_above is_ancestor at_or_below climbs_to masked blocked covers in_set some_below reading digits decimal fields line race_line illegal_line lines section text listing refused_line findings
to_write b = findings b

-- For W, writes exactly this.
pub W_findings : findings table_w ≡ codes "races 3\nrace 257 1 5 2 6\nrace 257 2 6 0 3\nrace 257 2 6 1 5\nillegal 0\n"
unfolding to_write
W_findings = refl

pub empty_findings : findings [] ≡ codes "refused 1 at 0\n"
unfolding to_write
empty_findings = refl

-- W without its last byte.
pub short_findings : findings (take 44 table_w) ≡ codes "refused 1 at 44\n"
unfolding to_write
short_findings = refl

-- W with byte 38 set to 5.
pub set_findings : findings (set table_w 38 5) ≡ codes "refused 10 at 35\n"
unfolding to_write
set_findings = refl

-- W with a blocking lock of the time-sliced scheduler, in the set of task 3, which is not below it.
pub illegal_findings : findings (set (set table_w 32 2) 24 255) ≡ codes "races 2\nrace 65281 1 5 2 6\nrace 65281 2 6 1 5\nillegal 1\nillegal 0 3 1\n"
unfolding to_write
illegal_findings = refl

-- The call answers the number of bytes, and leaves the bytes after them; where one byte is lacking it answers the bytes needed.
pub call_writes : listing_call [] (codes "................") ≡ record { answer = Value 15; buffer = codes "refused 1 at 0\n." }
unfolding to_write listing_call writing_text writing
call_writes = refl

pub call_too_short : listing_call [] (codes "..............") ≡ record { answer = Refusal 12 15; buffer = codes ".............." }
unfolding to_write listing_call writing_text writing refusing
call_too_short = refl

-- Numbers.
pub digits_one : decimal 0 ≡ codes "0"
unfolding decimal digits
digits_one = refl

pub digits_five : decimal 65535 ≡ codes "65535"
unfolding decimal digits
digits_five = refl

pub digits_twenty : decimal 18446744073709551615 ≡ codes "18446744073709551615"
unfolding decimal digits
digits_twenty = refl

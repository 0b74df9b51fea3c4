-- The examples of document 01 that are marked P, and the first of its 'errors that look right', each under the document's own words, closed
-- by computation.
-- Assumes nothing.
use Prim.Native.Nat.{ℕ}
use mathlib.Core.Path.{◌≡◌, refl}
use mathlib.Core.Bool.{true, false}
use mathlib.Core.List.{List, [], ◌∷◌, ◌++◌}
use lib.ListN.{length, take, set}
use Rattle.rules.specs.Bounded.{all_below, some_below, row, pairs, bytes_of}
use Rattle.rules.specs.Table.{is_task, is_scheduler, is_child}
use Rattle.rules.specs.Reading.{Reading, Is, Refused, read, concluded, first_fault, form_section, node_section, lock_section, resource_section, access_section, end_section, count_check, node_check, lock_check, resource_check, access_check, node_fault, lock_fault, access_fault, counts_in, parent_right, covered_right, due, each, unless, ◌and_then◌, table_of, counts_of, table_at}
use Rattle.rules.specs.Preemption.{climbs_to, at_or_below, is_ancestor, nearest_above, nearest_common, climbs_under, child_above, allows, may_preempt}
use Rattle.rules.specs.Locks.{in_set, covers, masked, blocked}
use Rattle.rules.specs.Races.{race, illegal, races, illegals}
use Rattle.rules.specs.Priorities.{has_thresholds, unwalked, given, moved_on, children, visit, walk, shown, thresholds}
use Rattle.rules.specs.Machine.{fresh, place_right, well_formed, held, may_take, unblocked, Step, Start, Open, stepper, named, fits, free, next, Stepped, Granted, Denied, granting, step, after, run}
use Rattle.rules.specs.Calls.{Value, Refusal, Left, refusing, writing, reading, races_call, illegal_call, thresholds_call}

unfoldable pub table_w : List ℕ
table_w =
    1
    ∷ 7 ∷ 0 ∷ 1 ∷ 0 ∷ 1 ∷ 0 ∷ 4 ∷ 1 ∷ 0 ∷ 1 ∷ 0 ∷ 2 ∷ 0 ∷ 2 ∷ 0
    ∷ 2 ∷ 0 ∷ 1 ∷ 1 ∷ 2 ∷ 0 ∷ 0
    ∷ 1 ∷ 1 ∷ 1
    ∷ 3 ∷ 3 ∷ 0 ∷ 0 ∷ 0 ∷ 0 ∷ 0 ∷ 5 ∷ 0 ∷ 0 ∷ 0 ∷ 0 ∷ 1 ∷ 6 ∷ 0 ∷ 0 ∷ 0 ∷ 0 ∷ 2
    ∷ []

unfoldable pub table_v : List ℕ
table_v = 1 ∷ 8 ∷ 0 ∷ 1 ∷ 0 ∷ 3 ∷ 0 ∷ 0 ∷ 0 ∷ 2 ∷ 1 ∷ 0 ∷ 1 ∷ 0 ∷ 3 ∷ 0 ∷ 3 ∷ 0 ∷ 0 ∷ 0 ∷ 0 ∷ []

-- Two time-sliced threads, tasks 3 and 4, that both mask the interrupt, task 1.
unfoldable pub table_slices : List ℕ
table_slices =
    1
    ∷ 5 ∷ 0 ∷ 1 ∷ 0 ∷ 0 ∷ 0 ∷ 4 ∷ 2 ∷ 0 ∷ 2 ∷ 0
    ∷ 1 ∷ 0 ∷ 1 ∷ 1
    ∷ 1 ∷ 0 ∷ 7
    ∷ 2 ∷ 3 ∷ 0 ∷ 0 ∷ 0 ∷ 0 ∷ 1 ∷ 4 ∷ 0 ∷ 0 ∷ 0 ∷ 0 ∷ 1
    ∷ []

-- To unfold one of these is to unfold all that it takes to read, to list, to number and to run.
to_read : List ℕ → Reading
unfolding table_w table_v table_slices read concluded first_fault form_section node_section lock_section resource_section access_section end_section count_check node_check lock_check resource_check access_check node_fault lock_fault access_fault counts_in parent_right covered_right due each unless ◌and_then◌ table_of counts_of table_at is_task is_scheduler is_child
to_read b = read b

to_list : List ℕ → List ℕ → Left
unfolding to_read reading writing refusing races_call illegal_call bytes_of races illegals pairs row race illegal may_preempt allows child_above climbs_under nearest_common nearest_above is_ancestor at_or_below climbs_to masked blocked covers in_set some_below all_below
to_list b out = races_call b out

to_number : List ℕ → List ℕ → Left
unfolding to_read reading writing refusing thresholds_call has_thresholds unwalked given moved_on children visit walk shown thresholds all_below some_below
to_number b out = thresholds_call b out

to_run : List Step → Stepped
unfolding to_list fresh place_right well_formed held may_take unblocked stepper named fits free next granting step after run
to_run steps = run (table_of table_w) fresh steps

-- It has 45 bytes.
pub W_length : length table_w ≡ 45
unfolding table_w
W_length = refl

-- W is a table.
pub W_read : read table_w ≡ Is (table_of table_w)
unfolding to_read
W_read = refl

-- W has the three races above and no illegal pair.
pub W_races : bytes_of (races (table_of table_w)) ≡ 1 ∷ 2 ∷ 2 ∷ 0 ∷ 2 ∷ 1 ∷ []
unfolding to_list
W_races = refl

pub W_illegals : illegals (table_of table_w) ≡ []
unfolding to_list
W_illegals = refl

-- (1, 0) is no race, the mask covers task 3.
pub W_masked : race (table_of table_w) 1 0 ≡ false
unfolding to_list
W_masked = refl

pub W_mask_covers : masked (table_of table_w) ((table_of table_w).lock_set 1) ((table_of table_w).task_of 0) ≡ true
unfolding to_list
W_mask_covers = refl

-- Two time-sliced threads that both mask interrupts still race, in both orders.
pub slices_read : read table_slices ≡ Is (table_of table_slices)
unfolding to_read
slices_read = refl

pub slices_race : bytes_of (races (table_of table_slices)) ≡ 0 ∷ 1 ∷ 1 ∷ 0 ∷ []
unfolding to_list
slices_race = refl

-- Empty input, refusal 1 at 0.
pub empty_input : read [] ≡ Refused 1 0
unfolding to_read
empty_input = refl

-- W without its last byte, 1 at 44.
pub W_cut_short : read (take 44 table_w) ≡ Refused 1 44
unfolding to_read
W_cut_short = refl

-- W with a byte more, 11 at 45.
pub W_byte_more : read (table_w ++ 0 ∷ []) ≡ Refused 11 45
unfolding to_read
W_byte_more = refl

-- W with byte 4 set to 1, refusal 4 at 4.
pub W_parent : read (set table_w 4 1) ≡ Refused 4 4
unfolding to_read
W_parent = refl

-- Byte 19 set to 3, refusal 7 at 19.
pub W_covered : read (set table_w 19 3) ≡ Refused 7 19
unfolding to_read
W_covered = refl

-- Byte 27 set to 2, refusal 8 at 27.
pub W_task : read (set table_w 27 2) ≡ Refused 8 27
unfolding to_read
W_task = refl

-- Byte 38 set to 5, refusal 10 at 35.
pub W_set : read (set table_w 38 5) ≡ Refused 10 35
unfolding to_read
W_set = refl

-- W asked for thresholds, 13.
pub W_thresholds : thresholds_call table_w [] ≡ record { answer = Refusal 13 0; buffer = [] }
unfolding to_number
W_thresholds = refl

-- Table V: tasks 4 and 5 get 0, 0; task 2 gets 1, 1; task 6 gets 2, 2; task 7 gets 3, 2.
pub V_read : read table_v ≡ Is (table_of table_v)
unfolding to_read
V_read = refl

pub V_numbered : has_thresholds (table_of table_v).tree ≡ true
unfolding to_number
V_numbered = refl

pub V_thresholds :
    thresholds (table_of table_v).tree
    ≡ 255 ∷ 255 ∷ 255 ∷ 255 ∷ 1 ∷ 1 ∷ 255 ∷ 255 ∷ 0 ∷ 0 ∷ 0 ∷ 0 ∷ 2 ∷ 2 ∷ 3 ∷ 2 ∷ []
unfolding to_number
V_thresholds = refl

-- On W from fresh, start 6, open 2, start 3, open 0 are all granted.
pub W_run :
    run (table_of table_w) fresh (Start 6 ∷ Open 2 ∷ Start 3 ∷ Open 0 ∷ []) ≡ Granted (set (set fresh 6 4) 3 2)
unfolding to_run
W_run = refl

-- Start 5, open 1, start 3 ends in refusal 17.
pub W_denied : run (table_of table_w) fresh (Start 5 ∷ Open 1 ∷ Start 3 ∷ []) ≡ Denied 17
unfolding to_run
W_denied = refl

-- Six bytes of output hold W's races; five give 12 with place 6.
pub W_room :
    races_call table_w (9 ∷ 9 ∷ 9 ∷ 9 ∷ 9 ∷ 9 ∷ [])
    ≡ record { answer = Value 3; buffer = 1 ∷ 2 ∷ 2 ∷ 0 ∷ 2 ∷ 1 ∷ [] }
unfolding to_list
W_room = refl

pub W_no_room :
    races_call table_w (9 ∷ 9 ∷ 9 ∷ 9 ∷ 9 ∷ []) ≡ record { answer = Refusal 12 6; buffer = 9 ∷ 9 ∷ 9 ∷ 9 ∷ 9 ∷ [] }
unfolding to_list
W_no_room = refl

-- The whole call: what it answers and leaves by the reading, by the thresholds that exist or not, and by the room.
-- Assumes nothing.
use Prim.Native.Nat.{ℕ, ◌*◌, ◌≤◌, ◌<◌}
use mathlib.Core.Path.{◌≡◌, refl, sym, ◌∙◌}
use mathlib.Core.Bool.{true, false, not}
use mathlib.Core.List.{List, ◌++◌}
use native.Mathlib.Omega.{arith}
use lib.Dec.{leb}
use lib.ListN.{length, drop, length-append}
use borrow.Author.Tests.{leb-true, leb-false, le-leb, lt-leb}
use Rattle.rules.specs.Table.{Table}
use Rattle.rules.specs.Reading as readings
use Rattle.rules.specs.Reading.{Is, read}
use Rattle.rules.specs.Priorities.{has_thresholds, unwalked, walk, thresholds, shown}
use Rattle.rules.specs.Calls.{writing, refusing, reading, thresholds_call}
use Rattle.rules.specs.Accepted.{Rooted}
use Rattle.rules.proofs.Bools.{not_true, not_false}
use Rattle.rules.proofs.Widths.{first_root}
use Rattle.std.specs.Prelude.{Ok, Err}
use Rattle.table.specs.declared.refusals.Fault.{Fault}
use Rattle.table.specs.Answers.{number, left}
use Rattle.priorities.specs.Answers.{numbered_call}
use Rattle.priorities.specs.Numbering.{Shows, Ready, Visited}
use Rattle.priorities.proofs.ShownWalks.{length_shown}

-- What the test of the room says.
pub roomy : (n m : ℕ) → not (leb n m) ≡ false → n ≤ m
roomy n m e = leb-true n m (not_false (leb n m) e)

pub scant : (n m : ℕ) → not (leb n m) ≡ true → m < n
scant n m e = leb-false n m (not_true (leb n m) e)

-- A table that is refused, and one that is read.
pub call_refused : (b out : List ℕ) (f : Fault) → read b ≡ readings.Refused (number f) f.place → left (Err f) out ≡ thresholds_call b out
unfolding thresholds_call reading left refusing
call_refused b out f e = rw e

pub call_read : (b out : List ℕ) (t : Table) → read b ≡ Is t → numbered_call t out ≡ thresholds_call b out
unfolding thresholds_call reading numbered_call
call_read b out t e = rw e

module _ (out : List ℕ) (t : Table) where
  pub call_none : has_thresholds t.tree ≡ false → (f : Fault) → number f ≡ 13 → f.place ≡ 0 → left (Err f) out ≡ numbered_call t out
  unfolding numbered_call left refusing
  call_none has f m p = rw (has, m, p)

  module _ (n : ℕ) (size : n ≡ t.tree.nodes * 2) (has : has_thresholds t.tree ≡ true) where
    length_thresholds : length (thresholds t.tree) ≡ n
    unfolding thresholds
    length_thresholds = length_shown (walk t.tree) t.tree.nodes ∙ sym size

    pub call_short : length out < n → (f : Fault) → number f ≡ 12 → f.place ≡ n → left (Err f) out ≡ numbered_call t out
    unfolding numbered_call writing left refusing
    call_short h f m p = rw (has, length_thresholds, lt-leb n (length out) h, m, p)

    call_written : n ≤ length out → left (Ok n) (thresholds t.tree ++ drop n out) ≡ numbered_call t out
    unfolding numbered_call writing left
    call_written h = rw (has, length_thresholds, le-leb n (length out) h, ← size)

  -- The walk begins at the root, in a buffer that shows 255, 255 for every node, and is shown in the end.
  module _
      (ok : Rooted t.tree) (has : has_thresholds t.tree ≡ true) (blanked : List ℕ)
      (q : blanked ≡ shown unwalked t.tree.nodes ++ drop (t.tree.nodes * 2) out) where
    pub root_ready : Ready t.tree blanked 0 0
    root_ready =
        record {
          rooted = ok;
          has = has;
          known = ok.some;
          room = rw q (omega (
            arith,
            length-append (shown unwalked t.tree.nodes) (drop (t.tree.nodes * 2) out),
            length_shown unwalked t.tree.nodes,
          ));
          counter = sym (first_root t.tree ok);
        }

    pub call_done : (n : ℕ) → n ≡ t.tree.nodes * 2 → n ≤ length out → (new : List ℕ) (r : ℕ)
        → Visited t.tree 0 blanked 0 new r → left (Ok n) new ≡ numbered_call t out
    call_done n size h new r v =
        let rest = drop (t.tree.nodes * 2) out in
        let s : Shows t.tree rest blanked 0 unwalked = record { bytes = q; counter = (unfold unwalked in refl) } in
        let w = v.walked t.tree.nodes rest unwalked (omega arith) s in
        rw (w.bytes, ← size) (unfold thresholds walk in call_written n size has h)

-- The head is as long as was said, and the row's lines are those of its two words.
use native.Mathlib.Omega.{arith}
use mathlib.Core.Path.{refl, ap}
use lib.ListN.{length, get_or, length-append}
use lib.Seq.{length-take-le}
use Rattle.table.specs.Answers.{shown}
use Rattle.table.proofs.Shown.{accesses_shown}
use Rattle.rows.proofs.Written.{none, next, same_room}
use Rattle.lines.proofs.RowLines.{no_lines, row_whole}
use Rattle.lines.proofs.ends.Ends.put_row.Goals as goal

pub returns-then-count_row-eq0 : goal.returns-then-count_row-eq0
returns-then-count_row-eq0 c = (rw (no_lines _ _ (c.count_row.ensures.pairs _) c.if-count_row-eq0.true) none, omega arith)

pub put_bits-w-requires : goal.put_bits-w-requires
put_bits-w-requires c =
    let a = c.args in
    let m = a.self.now.measured in
    let p = m.pairs in
    let h = c.put_head-h in
    let whole = row_whole p.which (shown p.t) a.i (get_or p.rows.now.low a.i 0) (get_or p.rows.now.high a.i 0) m.lens.now (p.within.each a.i (rw accesses_shown c.requires.0)) h.result a.self.now.tails.now refl h.ensures.0 h.ensures.2 h.ensures.2 m.lengths a.self.now.made in
    let long = length-take-le h.result h.new.head (omega arith) in
    (omega arith, omega (arith, long), omega (arith, long), omega (arith, whole.1, rw length-append at (ap length whole.0)))

pub put_bits-requires : goal.put_bits-requires
put_bits-requires c =
    let a = c.args in
    let m = a.self.now.measured in
    let p = m.pairs in
    let h = c.put_head-h in
    let whole = row_whole p.which (shown p.t) a.i (get_or p.rows.now.low a.i 0) (get_or p.rows.now.high a.i 0) m.lens.now (p.within.each a.i (rw accesses_shown c.requires.0)) h.result a.self.now.tails.now refl h.ensures.0 h.ensures.2 h.ensures.2 m.lengths a.self.now.made in
    let long = length-take-le h.result h.new.head (omega arith) in
    (omega arith, omega (arith, long), omega (arith, long), omega (arith, whole.1, c.put_bits-w.ensures.place, same_room c.put_bits-w.ensures, rw length-append at (ap length whole.0)))

pub returns : goal.returns
returns c =
    let a = c.args in
    let m = a.self.now.measured in
    let p = m.pairs in
    let h = c.put_head-h in
    let whole = row_whole p.which (shown p.t) a.i (get_or p.rows.now.low a.i 0) (get_or p.rows.now.high a.i 0) m.lens.now (p.within.each a.i (rw accesses_shown c.requires.0)) h.result a.self.now.tails.now refl h.ensures.0 h.ensures.2 h.ensures.2 m.lengths a.self.now.made in
    (rw whole.0 (next c.put_bits-w.ensures c.put_bits.ensures), omega (arith, whole.1, c.put_bits-w.ensures.place, c.put_bits.ensures.place, rw length-append at (ap length whole.0)))

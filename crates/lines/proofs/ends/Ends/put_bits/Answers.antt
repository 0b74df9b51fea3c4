-- The line of the number that comes is what comes next, and there is room for it.
use native.Mathlib.Omega.{arith}
use Prim.Native.Nat.{◌+◌}
use lib.ListN.{length}
use Rattle.rows.proofs.BitList.{below_64}
use Rattle.rows.proofs.Pairs.{writes_piece, writes_end}
use Rattle.lines.specs.Lines.{line_at, tail_at}
use Rattle.lines.proofs.BitLines.{first_line, last_line}
use Rattle.lines.proofs.RowLines.{first_room}
use Rattle.lines.proofs.ends.Ends.put_bits.Goals as goal

pub store_line-w-requires : goal.store_line-w-requires
store_line-w-requires c =
    let a = c.args in
    let l = c.loop-bit in
    let s = a.self.now.measured.lengths.short in
    let e = c.in-Some.ensures.steps in
    let room = first_room a.from _ _ _ e a.self.now.measured.lens.now a.head.now a.self.now.tails.now l.w (length l.out) c.requires.0 a.self.now.made.sized s (omega (arith, l.invariant.place, l.invariant.sized)) in
    (c.requires.1, c.requires.2, omega (arith, below_64 _ _ _ e), omega (arith, s.few (a.from + c.in-Some.bit)), omega (arith, room))

pub loop-bit-preserved : goal.loop-bit-preserved
unfolding line_at tail_at
loop-bit-preserved c =
    let turn = first_line (line_at c.args.head.now c.args.self.now.measured.lens.now c.args.self.now.tails.now) c.args.from _ _ _ c.in-Some.ensures.steps in
    writes_piece c.loop-bit.invariant turn (rw c.from-n.ensures at c.store_line-w.ensures)

pub returns : goal.returns
returns c = writes_end c.loop-bit.invariant (last_line _ _ _ c.in-None.ensures.steps.0)

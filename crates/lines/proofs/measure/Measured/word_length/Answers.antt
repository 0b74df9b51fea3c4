-- The number that comes adds the length of its line; 64 lines have at most 2,048 bytes.
use native.Mathlib.Omega.{arith}
use Prim.Native.Nat.{◌≤◌}
use mathlib.Core.Path.{ap}
use lib.ListN.{length}
use Rattle.lines.specs.Lines.{blank}
use Rattle.lines.proofs.BitLines.{last_line}
use Rattle.lines.proofs.RowLines.{blanks_few, first_length}
use Rattle.lines.proofs.measure.Measured.word_length.Goals as goal

pub overflow_add-sum-in-loop-j : goal.overflow_add-sum-in-loop-j
overflow_add-sum-in-loop-j c =
    let a = c.args in
    let room : c.loop-j.sum ≤ 2048 = omega (arith, c.loop-j.invariant, blanks_few a.h a.self.now.lens.now c.requires.1 a.self.now.lengths.short 64 a.from a.word) in
    omega (arith, room)

pub loop-j-preserved : goal.loop-j-preserved
loop-j-preserved c =
    let a = c.args in
    omega (arith, first_length a.from _ _ _ c.in-Some.ensures.steps a.self.now.lens.now a.h, c.loop-j.invariant)

pub returns : goal.returns
returns c =
    let a = c.args in
    let z = ap length (last_line (blank a.h a.self.now.lens.now) a.from _ c.in-None.ensures.steps.0) in
    let m = blanks_few a.h a.self.now.lens.now c.requires.1 a.self.now.lengths.short 64 a.from a.word in
    (omega (arith, z, c.loop-j.invariant), omega (arith, z, c.loop-j.invariant, m))

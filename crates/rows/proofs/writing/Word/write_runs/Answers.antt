use Rattle.rows.proofs.Pairs.{no_pairs, writes_piece, writes_end}
use Rattle.rows.proofs.Runs.{chunk, run_length}
use native.Mathlib.Omega.{arith}
use mathlib.Core.Path.{◌≡◌, ap}
use Prim.Native.Nat.{ℕ, ◌+◌, ◌-◌}
use lib.ListN.{length, length-append}
use Rattle.rows.proofs.writing.Word.write_runs.Goals as goal

shorter : (n j z l : ℕ) → n - j - (z + l) ≡ n - (j + z + l)
shorter n j z l = omega arith

pub write_run-k-requires : goal.write_run-k-requires
write_run-k-requires c =
    let l = c.loop-x in
    let both = chunk (c.args.self.from + 64 - l.j) c.args.self.i l.j l.x l.invariant.2 (omega arith) c.loop-x-test.true in
    let w = l.invariant.3 in (
      omega (arith, both.inside),
      omega (arith, w.place, w.sized, rw run_length at (rw length-append at (ap length both.eq))),
    )

pub overflow_sub-x : goal.overflow_sub-x
overflow_sub-x c =
    let l = c.loop-x in
    let both = chunk (c.args.self.from + 64 - l.j) c.args.self.i l.j l.x l.invariant.2 (omega arith) c.loop-x-test.true in
    both.some

pub loop-x-smaller : goal.loop-x-smaller
loop-x-smaller c =
    let l = c.loop-x in
    let both = chunk (c.args.self.from + 64 - l.j) c.args.self.i l.j l.x l.invariant.2 (omega arith) c.loop-x-test.true in
    omega (arith, both.inside, both.some)

pub loop-x-preserved : goal.loop-x-preserved
loop-x-preserved c =
    let l = c.loop-x in
    let both = chunk (c.args.self.from + 64 - l.j) c.args.self.i l.j l.x l.invariant.2 (omega arith) c.loop-x-test.true in (
      omega arith,
      omega (arith, both.inside),
      rw shorter at both.bound,
      writes_piece l.invariant.3 (rw shorter at both.eq) c.write_run-k.ensures,
    )

pub returns : goal.returns
returns c =
    let l = c.loop-x in
    let a = c.args in
    writes_end l.invariant.3 (rw c.loop-x-test.false (no_pairs (a.self.from + 64 - l.j) a.self.i l.j))

-- What the first loop read is the part, and the second loop wrote it.
use native.Mathlib.Omega.{arith}
use Rattle.store.proofs.Parts.{part_read}
use Rattle.store.proofs.store_eight.Goals as goal

pub returns : goal.returns
returns c =
    let a = c.args in
    let l = c.loop-i in
    rw (part_read a.from.now l.eight a.at 8 c.loop-i-2.i (omega arith) l.invariant.0 c.requires.0 (λ j h. l.invariant.1 j (omega arith))) at c.loop-i-2.invariant

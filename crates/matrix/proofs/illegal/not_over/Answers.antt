use lib.Bits.{bit_and, and_le_l}
use Prim.Native.Nat.{◌-◌, ◌^◌}
use native.Mathlib.Omega.{arith}
use Rattle.rows.proofs.Bits.{has_and, has_not}
use Rattle.matrix.proofs.illegal.not_over.Goals as goal

pub returns : goal.returns
returns c =
    let a = c.args in
    rw c.from.ensures
    (record {
      fits = omega (arith, and_le_l (bit_and a.set a.b) (2 ^ 32 - 1 - a.over), and_le_l a.set a.b, c.ranges.set.fits);
      bits = λ k h. rw (has_and k (bit_and a.set a.b) _, has_and k a.set a.b, has_not 32 k a.over h c.ranges.over.fits);
    })

-- Each turn adds the length of one tail, until all second numbers have theirs.
use native.Mathlib.Omega.{arith}
use Prim.Native.Nat.{ℕ}
use mathlib.Core.Path.{◌∙◌, ap}
use lib.ListN.{length, length-set, length-replicate}
use Rattle.lines.proofs.TailsMade.{lengths_none, lengths_go, lengths_all}
use Rattle.lines.proofs.Pairs.measure_tails.Goals as goal

pub loop-j-init : goal.loop-j-init
loop-j-init c = (ap length c.requires ∙ length-replicate {A = ℕ} 128 0, lengths_none _ _ _ c.requires)

pub loop-j-preserved : goal.loop-j-preserved
loop-j-preserved c =
    let l = c.loop-j in
    (rw length-set l.invariant.0, lengths_go _ _ _ l.j _ (omega arith) c.tail_length.ensures.1 c.tail_length.ensures.0 l.invariant.1)

pub returns : goal.returns
returns c =
    let l = c.loop-j in
    lengths_all _ _ l.auto.j-end c.loop-j-test.false c.count_seconds-j-end.ensures.0 l.invariant.1

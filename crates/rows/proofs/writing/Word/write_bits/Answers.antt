-- The pair of the number that comes is what is written next.
use Rattle.rows.proofs.Pairs.{room_for_pair, first_pair, last_pair, writes_first, writes_pair, writes_end}
use native.Mathlib.Omega.{arith}
use lib.ListN.{length-set}
use Rattle.rows.proofs.writing.Word.write_bits.Goals as goal

pub loop-j-init : goal.loop-j-init
loop-j-init c = rw (c.into_iter-j-iterator.ensures.into_iter_gives, c.bits-j-items.ensures) writes_first

pub bounds-out-k : goal.bounds-out-k
bounds-out-k c = let r = room_for_pair _ _ _ _ _ c.loop-j.invariant c.in-Some.ensures.steps c.requires in omega arith

pub bounds-out-k-in-loop-j : goal.bounds-out-k-in-loop-j
bounds-out-k-in-loop-j c = let r = room_for_pair _ _ _ _ _ c.loop-j.invariant c.in-Some.ensures.steps c.requires in rw length-set (omega arith)

pub loop-j-preserved : goal.loop-j-preserved
loop-j-preserved c = writes_pair c.loop-j.invariant (first_pair _ _ _ _ _ c.in-Some.ensures.steps)

pub returns : goal.returns
returns c = writes_end c.loop-j.invariant (last_pair _ _ _ c.in-None.ensures.steps.0)

-- A tail has its length, so it ends where its eight bytes end.
use native.Mathlib.Omega.{arith}
use borrow.Author.Rules.{rules}
use Rattle.lines.proofs.TailsMade.{tails_none, tails_go, tails_all}
use Rattle.lines.proofs.measure.Measured.put_tails.Goals as goal

pub loop-j-init : goal.loop-j-init
loop-j-init c = tails_none _ _ _ _ (omega arith)

pub overflow_sub-j : goal.overflow_sub-j
overflow_sub-j c =
    omega (arith, c.from-n.ensures, c.args.self.now.lengths.short.few c.loop-j.j)

pub loop-j-preserved : goal.loop-j-preserved
loop-j-preserved c =
    tails_go _ _ {r = c.put_tail.new.pen.at} c.loop-j.j c.args.self.now.lengths (omega (arith, c.count_seconds-j-end.ensures.0)) (omega (arith, c.count_seconds-j-end.ensures.0)) c.loop-j.invariant (search rules)

pub returns : goal.returns
returns c =
    let l = c.loop-j in
    tails_all _ _ l.auto.j-end c.loop-j-test.false c.count_seconds-j-end.ensures.0 l.invariant

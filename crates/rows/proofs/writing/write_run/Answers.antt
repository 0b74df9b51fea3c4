use Rattle.rows.proofs.Pairs.{writes_pair, writes_end}
use Rattle.rows.proofs.Runs.{run_turn, run_end}
use native.Mathlib.Omega.{arith}
use Rattle.rows.proofs.writing.write_run.Goals as goal

pub loop-j-preserved : goal.loop-j-preserved
loop-j-preserved c =
    let l = c.loop-j in
    (omega arith, writes_pair l.invariant.1 (run_turn _ l.j _ c.loop-j-test.true))

pub returns : goal.returns
returns c = writes_end c.loop-j.invariant.1 (run_end _ c.loop-j.j _ c.loop-j-test.false)

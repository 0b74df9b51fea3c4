use Rattle.table.specs.Answers.{shown}
use Rattle.rules.specs.Reading.{table_at}
use Rattle.rules.specs.Table.{is_scheduler}
use borrow.Author.Tests.{lt-ltb, le-ltb}
use native.Mathlib.Omega.{arith}
use Prim.Native.Nat.{◌<◌, ◌≤◌}
use Rattle.table.proofs.KindLaws.{task_is, task_not}
use Rattle.table.proofs.Table.is_scheduler.Goals as goal
use Rattle.table.proofs.Table.is_scheduler.Goals.{in-Task, in_default}

pub returns-after-matches : goal.returns-after-matches
unfolding is_scheduler shown table_at
returns-after-matches c =
    let a = c.args in
    let h : a.n < a.self.now.nodes = omega arith in
    elim c.match-matches.branch [
      | in-Task w ↦ rw (w.matches-is, lt-ltb _ _ h, task_is _ w.in-Task.ensures)
      | in_default w ↦ rw (w.matches-is, lt-ltb _ _ h, task_not _ _ c.kind.ensures w.in_default.not-Task)
    ]

pub returns-else-n-from : goal.returns-else-n-from
unfolding is_scheduler shown table_at
returns-else-n-from c =
    let a = c.args in
    let h : a.self.now.nodes ≤ a.n = omega arith in
    rw (le-ltb _ _ h, le-ltb _ _ c.if-n-from.false)

use Rattle.table.specs.Answers.{shown}
use Rattle.rules.specs.Reading.{table_at}
use Rattle.rules.specs.Table.{is_task}
use borrow.Author.Tests.{lt-ltb, le-ltb, ltb-true}
use native.Mathlib.Omega.{arith}
use Prim.Native.Nat.{◌<◌, ◌≤◌}
use Rattle.table.proofs.KindLaws.{task_is, task_not}
use Rattle.table.proofs.Table.is_task.Goals as goal

pub returns-in-Task : goal.returns-in-Task
unfolding is_task shown table_at
returns-in-Task c =
    let a = c.args in
    let h : a.n < a.self.now.nodes = omega arith in
    (rw (lt-ltb _ _ h, task_is _ c.in-Task.ensures), λ e. omega arith)

pub returns-in_default : goal.returns-in_default
unfolding is_task shown table_at
returns-in_default c =
    let a = c.args in
    let h : a.n < a.self.now.nodes = omega arith in
    (rw (lt-ltb _ _ h, task_not _ _ c.kind.ensures c.in_default.not-Task), λ e. omega arith)

pub returns-else-n-from : goal.returns-else-n-from
unfolding is_task shown table_at
returns-else-n-from c =
    let a = c.args in
    let h : a.self.now.nodes ≤ a.n = omega arith in
    (rw (le-ltb _ _ h, le-ltb _ _ c.if-n-from.false), λ e. omega (arith, ltb-true _ _ e))

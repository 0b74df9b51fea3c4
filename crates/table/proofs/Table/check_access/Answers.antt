use Rattle.table.proofs.Shown.{counts_shown, resources_shown, locks_shown}
use Rattle.table.specs.Answers.{shown, checked, number, numbered}
use Rattle.rules.specs.Reading.{access_check, due, unless, ◌and_then◌, access_fault}
use borrow.Author.Tests.{le-leb, lt-leb, lt-ltb, le-ltb}
use native.Mathlib.Omega.{arith}
use Prim.Native.Nat.{◌<◌, ◌≤◌}
use Rattle.table.proofs.Table.check_access.Goals as goal

pub returns-then-self-at : goal.returns-then-self-at
unfolding checked number numbered shown access_check due unless ◌and_then◌
returns-then-self-at c = rw (c.at.ensures, ← c.access_at-at.ensures.0, lt-leb _ _ c.if-self-at.true)

pub returns-then-not-is_task : goal.returns-then-not-is_task
unfolding checked number numbered shown access_check due unless ◌and_then◌ access_fault
returns-then-not-is_task c =
    rw (
      c.at-then-not-is_task.ensures,
      counts_shown,
      ← c.access_at-at.ensures.0,
      le-leb _ _ c.if-self-at.false,
      ← c.task_of.ensures.0,
      ← c.is_task.ensures.0,
      c.if-not-is_task.true,
    )

pub returns-then-from-resource_of : goal.returns-then-from-resource_of
unfolding checked number numbered shown access_check due unless ◌and_then◌ access_fault
returns-then-from-resource_of c =
    let h : c.args.self.now.resources ≤ c.resource_of.result = omega arith in
    rw (
      c.at-then-from-resource_of.ensures,
      counts_shown,
      ← c.access_at-at.ensures.0,
      le-leb _ _ c.if-self-at.false,
      ← c.task_of.ensures.0,
      ← c.is_task.ensures.0,
      c.if-not-is_task.false,
      ← c.resource_of.ensures.0,
      resources_shown,
      le-ltb _ _ h,
    )

pub returns-then-not-set_within : goal.returns-then-not-set_within
unfolding checked number numbered shown access_check due unless ◌and_then◌ access_fault
returns-then-not-set_within c =
    let h : c.resource_of.result < c.args.self.now.resources = omega arith in
    rw (
      c.at-then-not-set_within.ensures,
      counts_shown,
      ← c.access_at-at.ensures.0,
      le-leb _ _ c.if-self-at.false,
      ← c.task_of.ensures.0,
      ← c.is_task.ensures.0,
      c.if-not-is_task.false,
      ← c.resource_of.ensures.0,
      resources_shown,
      lt-ltb _ _ h,
      ← c.lock_set.ensures,
      locks_shown,
      ← c.set_within.ensures,
      c.if-not-set_within.true,
    )

pub returns : goal.returns
unfolding checked number numbered shown access_check due unless ◌and_then◌ access_fault
returns c =
    let h : c.resource_of.result < c.args.self.now.resources = omega arith in
    rw (
      counts_shown,
      ← c.access_at-at.ensures.0,
      le-leb _ _ c.if-self-at.false,
      ← c.task_of.ensures.0,
      ← c.is_task.ensures.0,
      c.if-not-is_task.false,
      ← c.resource_of.ensures.0,
      resources_shown,
      lt-ltb _ _ h,
      ← c.lock_set.ensures,
      locks_shown,
      ← c.set_within.ensures,
      c.if-not-set_within.false,
    )

use Rattle.table.proofs.Shown.{counts_shown}
use Rattle.table.specs.Answers.{shown, checked, number, numbered}
use Rattle.rules.specs.Reading.{lock_check, due, unless, ◌and_then◌, lock_fault}
use borrow.Author.Tests.{le-leb, lt-leb}
use Rattle.table.proofs.KindLaws.{unlisted_lock, listed_lock}
use Rattle.table.proofs.Table.check_lock.Goals as goal

pub returns-then-self-at : goal.returns-then-self-at
unfolding checked number numbered shown lock_check due unless ◌and_then◌
returns-then-self-at c = rw (c.at.ensures, ← c.lock_at-at.ensures.0, lt-leb _ _ c.if-self-at.true)

pub returns-then-not-is_scheduler : goal.returns-then-not-is_scheduler
unfolding checked number numbered shown lock_check due unless ◌and_then◌ lock_fault
returns-then-not-is_scheduler c =
    rw (
      c.at-then-not-is_scheduler.ensures,
      counts_shown,
      ← c.lock_at-at.ensures.0,
      le-leb _ _ c.if-self-at.false,
      ← c.provider.ensures.0,
      ← c.is_scheduler.ensures,
      c.if-not-is_scheduler.true,
    )

pub returns-in-Unlisted : goal.returns-in-Unlisted
unfolding checked number numbered shown lock_check due unless ◌and_then◌ lock_fault
returns-in-Unlisted c =
    rw (
      c.at-in-Unlisted.ensures,
      counts_shown,
      ← c.lock_at-at.ensures.0,
      le-leb _ _ c.if-self-at.false,
      ← c.provider.ensures.0,
      ← c.is_scheduler.ensures,
      c.if-not-is_scheduler.false,
      unlisted_lock _ _ c.in-Unlisted.ensures,
    )

pub returns-then-not-covered_right : goal.returns-then-not-covered_right
unfolding checked number numbered shown lock_check due unless ◌and_then◌ lock_fault
returns-then-not-covered_right c =
    rw (
      c.at-then-not-covered_right.ensures,
      counts_shown,
      ← c.lock_at-at.ensures.0,
      le-leb _ _ c.if-self-at.false,
      ← c.provider.ensures.0,
      ← c.is_scheduler.ensures,
      c.if-not-is_scheduler.false,
      listed_lock _ _ c.lock_kind.ensures c.in_default.not-Unlisted,
      ← c.covered_right.ensures,
      c.if-not-covered_right.true,
    )

pub returns : goal.returns
unfolding checked number numbered shown lock_check due unless ◌and_then◌ lock_fault
returns c =
    rw (
      counts_shown,
      ← c.lock_at-at.ensures.0,
      le-leb _ _ c.if-self-at.false,
      ← c.provider.ensures.0,
      ← c.is_scheduler.ensures,
      c.if-not-is_scheduler.false,
      listed_lock _ _ c.lock_kind.ensures c.in_default.not-Unlisted,
      ← c.covered_right.ensures,
      c.if-not-covered_right.false,
    )

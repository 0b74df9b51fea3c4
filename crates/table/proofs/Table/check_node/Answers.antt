use Rattle.table.specs.Answers.{shown, checked, number, numbered}
use Rattle.rules.specs.Reading.{node_check, due, unless, ◌and_then◌, node_fault}
use borrow.Author.Tests.{le-leb, lt-leb}
use Rattle.table.proofs.KindLaws.{unlisted_node, listed_node}
use Rattle.table.proofs.Table.check_node.Goals as goal

pub returns-then-self-at : goal.returns-then-self-at
unfolding checked number numbered shown node_check due unless ◌and_then◌
returns-then-self-at c = rw (c.at.ensures, lt-leb _ _ c.if-self-at.true)

pub returns-then-not-parent_right : goal.returns-then-not-parent_right
unfolding checked number numbered shown node_check due unless ◌and_then◌ node_fault
returns-then-not-parent_right c =
    rw (c.at-then-not-parent_right.ensures, le-leb _ _ c.if-self-at.false, ← c.parent_right.ensures, c.if-not-parent_right.true)

pub returns-in-Unlisted : goal.returns-in-Unlisted
unfolding checked number numbered shown node_check due unless ◌and_then◌ node_fault
returns-in-Unlisted c =
    rw (
      c.at-in-Unlisted.ensures,
      le-leb _ _ c.if-self-at.false,
      ← c.parent_right.ensures,
      c.if-not-parent_right.false,
      unlisted_node _ _ c.in-Unlisted.ensures,
    )

pub returns : goal.returns
unfolding checked number numbered shown node_check due unless ◌and_then◌ node_fault
returns c =
    rw (
      le-leb _ _ c.if-self-at.false,
      ← c.parent_right.ensures,
      c.if-not-parent_right.false,
      listed_node _ _ c.kind.ensures c.in_default.not-Unlisted,
    )

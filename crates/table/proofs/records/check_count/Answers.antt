use Rattle.table.specs.Answers.{checked, number, numbered}
use Rattle.rules.specs.Reading.{due, unless, ◌and_then◌, count_check}
use borrow.Author.Tests.{le-leb, lt-leb}
use Rattle.table.proofs.records.check_count.Goals as goal
use Rattle.table.proofs.records.check_count.Goals.{then-n-least-via-then-n-least, then-n-least-via-else-n-least+then-most-n}

pub returns-then-bytes-p : goal.returns-then-bytes-p
unfolding checked number numbered count_check due unless ◌and_then◌
returns-then-bytes-p c = rw (c.at.ensures, lt-leb _ _ c.if-bytes-p.true)

pub returns-then-n-least : goal.returns-then-n-least
unfolding checked number numbered count_check due unless ◌and_then◌
returns-then-n-least c =
    rw (c.at-then-n-least.ensures, le-leb _ _ c.if-bytes-p.false)
    (elim c.then-n-least.branch [
      | then-n-least-via-then-n-least w ↦ rw (lt-leb _ _ w.if-n-least.true)
      | then-n-least-via-else-n-least+then-most-n w ↦ rw (le-leb _ _ w.if-n-least.false, lt-leb _ _ w.if-most-n.true)
    ])

pub returns : goal.returns
unfolding checked number numbered count_check due unless ◌and_then◌
returns c = rw (le-leb _ _ c.if-bytes-p.false, le-leb _ _ c.if-n-least.false, le-leb _ _ c.if-most-n.false)

use Rattle.table.specs.Answers.{checked, number, numbered}
use Rattle.rules.specs.Reading.{end_section, unless}
use borrow.Author.Tests.{le-leb, lt-leb}
use Rattle.table.proofs.Table.end_section.Goals as goal

pub returns-then-end-self : goal.returns-then-end-self
unfolding checked number numbered end_section unless
returns-then-end-self c = rw (c.at.ensures, ← c.from.ensures, ← c.access_at-end.ensures.0, lt-leb _ _ c.if-end-self.true)

pub returns : goal.returns
unfolding checked number numbered end_section unless
returns c = rw (← c.from.ensures, ← c.access_at-end.ensures.0, le-leb _ _ c.if-end-self.false)

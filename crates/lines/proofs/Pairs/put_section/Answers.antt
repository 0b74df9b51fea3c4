-- The first line is written, and then all rows as one piece.
use native.Mathlib.Omega.{arith}
use borrow.Author.Rules.{rules}
use Rattle.table.proofs.Bounds.{few_accesses_lem}
use Rattle.lines.proofs.SectionPieces.{one_piece}
use Rattle.lines.proofs.SectionTexts.{section_wrote, none_wrote, lines_left}
use Rattle.lines.proofs.Pairs.put_section.Goals as goal

pub count-count-requires : goal.count-count-requires
count-count-requires c = omega (arith, few_accesses_lem _ c.args.self.now.accepted)

pub returns-then-count-eq0 : goal.returns-then-count-eq0
returns-then-count-eq0 c =
    none_wrote _ _ _ (rw c.from-n.ensures at c.count-count.ensures) c.if-count-eq0.true (search rules)

pub put_lines-requires : goal.put_lines-requires
put_lines-requires c =
    let e = c.from-n.ensures in
    (omega arith, rw (e, one_piece) (lines_left _ _ _ (rw e at c.count-count.ensures) _ c.requires.2 (search rules)))

pub returns : goal.returns
returns c =
    let e = c.from-n.ensures in
    section_wrote _ _ _ (rw e at c.count-count.ensures) (search rules) (rw (e, one_piece) at c.put_lines.ensures.0)

use Rattle.matrix.proofs.Halves.{one_half, two_halves}
use Rattle.matrix.proofs.Filling.{cleared}
use Rattle.table.proofs.Bounds.{few_accesses_lem}
use Rattle.table.proofs.Shown.{accesses_shown}
use Rattle.table.specs.Answers.{shown}
use native.Mathlib.Omega.{arith}
use mathlib.Core.Path.{sym, ◌∙◌}
use Rattle.matrix.proofs.race_rows.Goals as goal

pub returns-then-count-le64 : goal.returns-then-count-le64
returns-then-count-le64 c = one_half (shown c.args.t.now.table) (c.from-count.ensures ∙ sym (accesses_shown _)) c.if-count-le64.true c.half_rows.ensures (cleared (omega arith) (c.fill.ensures.after (λ y e. e)))

pub returns : goal.returns
returns c =
    two_halves (shown c.args.t.now.table) (c.from-count.ensures ∙ sym (accesses_shown _)) c.if-count-le64.false (omega (arith, few_accesses_lem _ c.args.t.now.accepted)) c.half_rows-2.ensures c.half_rows-3.ensures

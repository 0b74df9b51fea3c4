-- The tens first, if there are any.
use Rattle.std.proofs.Common.{arith}
use mathlib.Core.Path.{◌∙◌}
use Rattle.text.proofs.Numbers.{number_last, number_more, number_short}
use Rattle.text.proofs.Pen.+number.Goals as goal
use Rattle.text.proofs.Pen.+number.Goals.{then-n-ge10, else-n-ge10}

pub returns : goal.returns
returns t c =
    elim c.if-n-ge10.branch [
      | then-n-ge10 w ↦
          let v = number_more w.if-n-ge10.true w.number.ensures.0.0 (rw w.self-is at c.put.ensures.0.0) in
          ((v, rw w.self-is at c.put.ensures.0.1 ∙ w.number.ensures.0.1), number_short (omega arith) v)
      | else-n-ge10 w ↦
          let v = number_last w.if-n-ge10.false (rw w.self-is at c.put.ensures.0.0) in
          ((v, rw w.self-is at c.put.ensures.0.1), number_short (omega arith) v)
    ]

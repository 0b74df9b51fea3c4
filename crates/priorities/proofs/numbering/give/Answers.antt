use lib.ListN.{length-set}
use native.Mathlib.Omega.{arith}
use Rattle.priorities.proofs.numbering.give.Goals as goal

pub bounds-out-n-2 : goal.bounds-out-n-2
bounds-out-n-2 c = simp length-set (omega arith)

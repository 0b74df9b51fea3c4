-- The four pieces together are the head and the tail.
use native.Mathlib.Omega.{arith}
use mathlib.Core.Path.{refl}
use Rattle.store.proofs.Parts.{line_wrote}
use Rattle.store.proofs.store_line.Goals as goal

pub returns : goal.returns
returns c =
    let q = c.requires in
    line_wrote _ _ _ _ _ _ _ _ _ _ _ q.0 q.1 q.3 q.4 (omega arith) (omega arith) c.store_eight.ensures c.store_eight-2.ensures c.store_eight-3.ensures c.store_eight-4.ensures refl

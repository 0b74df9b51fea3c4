-- When a parent is right: the root's is 0, and every other node's is a lower one and no task.
-- Assumes nothing.
use Prim.Native.Nat.{ℕ}
use mathlib.Core.Path.{◌≡◌, refl}
use mathlib.Core.Logic.{◌≢◌}
use mathlib.Core.Bool.{Bool, true, false, not, ◌&&◌}
use lib.Dec.{eqb, ltb}
use borrow.Author.Tests.{eq-eqb, ne_eqb}
use Rattle.rules.specs.Table.{Tree}
use Rattle.rules.specs.Reading.{parent_right}
use Rattle.table.specs.declared.kinds.NodeKind.{NodeKind}
use Rattle.table.specs.declared.kinds.NodeKind.TheVariants as nodes
use Rattle.table.specs.Kinds.{node_kind}
use Rattle.table.proofs.KindLaws.{task_is, task_not}

last_fails : (a : Bool) → false ≡ (a && not true)
last_fails true = refl
last_fails false = refl

last_holds : (a : Bool) → a ≡ (a && not false)
last_holds true = refl
last_holds false = refl

module _ (t : Tree) (n p : ℕ) (e : p ≡ t.parent n) where
  pub first_right : n ≡ 0 → eqb p 0 ≡ parent_right t n
  unfolding parent_right
  first_right h = rw (eq-eqb _ _ h, e)

  pub under_task : n ≢ 0 → nodes.Task ≡ node_kind (t.kind p) → false ≡ parent_right t n
  unfolding parent_right
  under_task h k = rw (ne_eqb _ _ h, ← e, task_is _ k) (last_fails _)

  pub under_scheduler : (k : NodeKind) → n ≢ 0 → k ≡ node_kind (t.kind p) → k ≢ nodes.Task → ltb p n ≡ parent_right t n
  unfolding parent_right
  under_scheduler k h q z = rw (ne_eqb _ _ h, ← e, task_not _ k q z) (last_holds _)

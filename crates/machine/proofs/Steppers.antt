-- Who steps in an accepted table is a node and has a place, and what stands there after the step is a byte.
-- Assumes nothing.
use Prim.Native.Nat.{◌<◌}
use mathlib.Core.Path.{◌≡◌}
use mathlib.Core.Bool.{true}
use native.Mathlib.Omega.{arith}
use borrow.Author.Tests.{ltb-true}
use Rattle.rules.specs.Table.{Table}
use Rattle.rules.specs.Accepted.{Accepted}
use Rattle.rules.specs.Machine.{places, Step, Start, Open, Close, Finish, stepper, named, next}
use Rattle.rules.proofs.Nodes.{task_at}
use Rattle.table.specs.declared.Table as code
use Rattle.table.specs.Answers.{shown}
use Rattle.table.proofs.Shown.{nodes_shown}

module _ (t : Table) (ok : Accepted t) where
  is_node : (c : Step) → named t c ≡ true → stepper t c < t.tree.nodes
  unfolding named stepper
  is_node (Start x) e = (task_at t.tree x e).0
  is_node (Open i) e = (task_at t.tree (t.task_of i) (ok.tasks i (ltb-true _ _ e))).0
  is_node (Close x) e = (task_at t.tree x e).0
  is_node (Finish x) e = (task_at t.tree x e).0

  pub has_place : (c : Step) → named t c ≡ true → stepper t c < places
  has_place c e = omega (arith, is_node c e, ok.tree.few)

  pub next_byte : (c : Step) → named t c ≡ true → next c < 256
  unfolding named next
  next_byte (Start x) e = omega arith
  next_byte (Open i) e = omega (arith, ltb-true i t.accesses e, ok.few_accesses)
  next_byte (Close x) e = omega arith
  next_byte (Finish x) e = omega arith

-- The same by the count of the struct that shows the table.
pub is_shown_node : (t : code.Table) → Accepted (shown t) → (c : Step) → named (shown t) c ≡ true → stepper (shown t) c < t.nodes
is_shown_node t ok c e = omega (arith, is_node (shown t) ok c e, nodes_shown t)

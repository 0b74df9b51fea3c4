-- The fields of an accepted table, as the struct shows it, keep their limits.
-- Assumes nothing.
use Prim.Native.Nat.{ℕ, ◌≤◌, ◌<◌}
use mathlib.Core.Path.{◌≡◌}
use mathlib.Core.Logic.{◌≢◌}
use native.Mathlib.Omega.{arith}
use lib.Dec.{ltb}
use borrow.Author.Tests.{ltb-true, eqb-false}
use mathlib.Core.Bool.{true}
use Rattle.rules.specs.Table.{Tree, task, mask, is_scheduler}
use Rattle.rules.specs.Accepted.{Accepted}
use Rattle.rules.proofs.Bools.{and_left, and_right, not_true}
use Rattle.rules.proofs.Nodes.{task_at, child_at}
use Rattle.table.specs.declared.Table.{Table}
use Rattle.table.specs.Answers.{shown}
use Rattle.table.proofs.Shown.{nodes_shown, locks_shown, accesses_shown}

-- A scheduler is in the tree, and no task.
pub scheduler_at : (t : Tree) (n : ℕ) → is_scheduler t n ≡ true → (n < t.nodes) × (t.kind n ≢ task)
unfolding is_scheduler
scheduler_at t n e = (
  ltb-true _ _ (and_left _ _ e),
  eqb-false _ _ (not_true _ (and_right (ltb n t.nodes) _ e)),
)

module _ (t : Table) (ok : Accepted (shown t)) where
  pub few_nodes : t.nodes ≤ 128
  few_nodes = rw nodes_shown at ok.tree.few

  pub few_accesses_lem : t.accesses ≤ 128
  few_accesses_lem = rw accesses_shown at ok.few_accesses

  pub few_locks_lem : t.locks ≤ 32
  few_locks_lem = rw locks_shown at ok.few_locks

  pub task_low : (i : ℕ) → i < t.accesses → (shown t).task_of i < t.nodes
  task_low i h = rw nodes_shown at (task_at (shown t).tree ((shown t).task_of i) (ok.tasks i (rw accesses_shown h))).0

  pub resource_low : (i : ℕ) → i < t.accesses → (shown t).resource_of i < 64
  resource_low i h = omega (arith, ok.known i (rw accesses_shown h), ok.few_resources)

  pub parent_low : (c : ℕ) → 0 < c → c < t.nodes → (shown t).tree.parent c < c
  parent_low c z h = ok.tree.lower c (rw nodes_shown h) (omega arith)

  pub covered_low : (k : ℕ) → k < t.locks → (shown t).lock_kind k ≡ mask → (shown t).covered k < 128
  covered_low k h e =
      omega (arith, few_nodes, rw nodes_shown at (child_at (shown t).tree ((shown t).provider k) ((shown t).covered k) (ok.masks k (rw locks_shown h) e)).0)

  pub provider_low : (k : ℕ) → k < t.locks → (shown t).provider k < 128
  provider_low k h =
      omega (arith, few_nodes, rw nodes_shown at (scheduler_at (shown t).tree ((shown t).provider k) (ok.providers k (rw locks_shown h))).0)

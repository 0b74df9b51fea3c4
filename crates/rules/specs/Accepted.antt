-- What every accepted table has: the rules of the table's sections, as facts.
-- Assumes nothing.
use Rattle.std.specs.Prelude.{ℕ, ◌≤◌, ◌<◌, ◌^◌, ◌≡◌, ◌≢◌, true}
use Rattle.rules.specs.Table.{Tree, Table, task, time_sliced, blocking, mask, is_task, is_scheduler, is_child}
use Rattle.rules.specs.Reading.{max_nodes, max_locks, max_resources, max_accesses}

-- Node 0 is the root; every other node's parent has a smaller number and is no task.
pub record Rooted (t : Tree) : Type 0 where
  pub some : 1 ≤ t.nodes
  pub few : t.nodes ≤ max_nodes
  pub kinds : (n : ℕ) → n < t.nodes → t.kind n ≤ time_sliced
  pub root : t.parent 0 ≡ 0
  pub lower : (n : ℕ) → n < t.nodes → n ≢ 0 → t.parent n < n
  pub inner : (n : ℕ) → n < t.nodes → n ≢ 0 → t.kind (t.parent n) ≢ task

-- The tree is rooted; a lock's provider is a scheduler, a blocking lock covers nothing, a mask covers one child of its provider; an access
-- names a task, a resource of the table, and locks of the table alone.
pub record Accepted (t : Table) : Type 0 where
  pub tree : Rooted t.tree
  pub few_locks : t.locks ≤ max_locks
  pub few_resources : t.resources ≤ max_resources
  pub few_accesses : t.accesses ≤ max_accesses
  pub providers : (k : ℕ) → k < t.locks → is_scheduler t.tree (t.provider k) ≡ true
  pub lock_kinds : (k : ℕ) → k < t.locks → t.lock_kind k ≤ mask
  pub blockers : (k : ℕ) → k < t.locks → t.lock_kind k ≡ blocking → t.covered k ≡ 0
  pub masks : (k : ℕ) → k < t.locks → t.lock_kind k ≡ mask → is_child t.tree (t.provider k) (t.covered k) ≡ true
  pub tasks : (i : ℕ) → i < t.accesses → is_task t.tree (t.task_of i) ≡ true
  pub known : (i : ℕ) → i < t.accesses → t.resource_of i < t.resources
  pub sets : (i : ℕ) → i < t.accesses → t.lock_set i < 2 ^ t.locks

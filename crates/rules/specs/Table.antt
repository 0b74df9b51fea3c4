-- The table: a tree of schedulers and tasks, locks, resources and accesses. It has forgotten its bytes: four counts, and for each field of a
-- record a function of the record's number. A number past a count means nothing.
-- Assumes nothing.
use Rattle.std.specs.Prelude.{ℕ, Bool, not, ◌&&◌, ltb, eqb}

-- Node kinds.
abbrev pub task : ℕ
task = 0

abbrev pub preemptive : ℕ
preemptive = 1

abbrev pub non_preemptive : ℕ
non_preemptive = 2

abbrev pub fifo : ℕ
fifo = 3

abbrev pub time_sliced : ℕ
time_sliced = 4

-- Lock kinds.
abbrev pub blocking : ℕ
blocking = 0

abbrev pub mask : ℕ
mask = 1

-- The nodes: how many, and the parent and kind of each. Node 0 is the root.
pub record Tree : Type 0 where
  pub nodes : ℕ
  pub parent : ℕ → ℕ
  pub kind : ℕ → ℕ

pub record Table : Type 0 where
  pub tree : Tree
  pub locks : ℕ
  pub resources : ℕ
  pub accesses : ℕ
  pub provider : ℕ → ℕ
  pub lock_kind : ℕ → ℕ
  pub covered : ℕ → ℕ
  pub label : ℕ → ℕ
  pub task_of : ℕ → ℕ
  pub resource_of : ℕ → ℕ
  pub lock_set : ℕ → ℕ

-- n is a task of the tree.
unfoldable pub is_task : Tree → ℕ → Bool
is_task t n = ltb n t.nodes && eqb (t.kind n) task

-- n is a scheduler of the tree.
unfoldable pub is_scheduler : Tree → ℕ → Bool
is_scheduler t n = ltb n t.nodes && not (eqb (t.kind n) task)

-- c is a child of p. The root is nobody's child.
unfoldable pub is_child : Tree → ℕ → ℕ → Bool
is_child t p c = ltb c t.nodes && not (eqb c 0) && eqb (t.parent c) p

-- Every table that is read has the facts of `Accepted`: a section that is fine has passed each of its tests, and each test is a fact.
-- Assumes nothing.
use Prim.Native.Nat.{ℕ, zero, suc, ◌+◌, ◌*◌, ◌≤◌, ◌<◌, ◌^◌}
use mathlib.Core.Path.{◌≡◌}
use mathlib.Core.Logic.{◌≢◌}
use mathlib.Core.Bool.{true}
use mathlib.Core.List.{List}
use native.Mathlib.Omega.{arith}
use lib.Dec.{leb, ltb}
use lib.ListN.{length}
use borrow.Author.Tests.{eqb-true, eqb-false, ne_eqb, leb-true, ltb-true}
use Rattle.rules.specs.Table.{Tree, Table, task, blocking, mask, is_task, is_scheduler, is_child}
use Rattle.rules.specs.Reading.{Fine, Is, counts_of, table_at, table_of, first_fault, node_section, lock_section, resource_section, access_section, end_section, count_check, node_check, lock_check, access_check, node_fault, lock_fault, access_fault, parent_right, covered_right, byte, due, end_at, counts_in, read}
use Rattle.rules.specs.Accepted.{Rooted, Accepted}
use Rattle.rules.proofs.Bools.{and_left, and_right, not_true}
use Rattle.rules.proofs.Reading.{then_left, then_right, unless_fine, each_fine, read_fine, read_table}

-- Each section of bytes with no fault is fine.
module _ (b : List ℕ) (e : first_fault b ≡ Fine) where
  nodes_fine : node_section (counts_of b) b ≡ Fine
  unfolding first_fault
  nodes_fine = then_left _ _ (then_right _ _ e)

  locks_fine : lock_section (counts_of b) b ≡ Fine
  unfolding first_fault
  locks_fine = then_left _ _ (then_right _ _ (then_right _ _ e))

  resources_fine : resource_section (counts_of b) b ≡ Fine
  unfolding first_fault
  resources_fine = then_left _ _ (then_right _ _ (then_right _ _ (then_right _ _ e)))

  accesses_fine : access_section (counts_of b) b ≡ Fine
  unfolding first_fault
  accesses_fine = then_left _ _ (then_right _ _ (then_right _ _ (then_right _ _ (then_right _ _ e))))

  pub end_fine : end_section (counts_of b) b ≡ Fine
  unfolding first_fault
  end_fine = then_right _ _ (then_right _ _ (then_right _ _ (then_right _ _ (then_right _ _ e))))

-- A count that is fine lies within its limits.
pub count_limits : (b : List ℕ) (p least most : ℕ) → count_check b p least most ≡ Fine → (least ≤ byte b p) × (byte b p ≤ most)
unfolding count_check
count_limits b p least most e =
    let q = unless_fine _ _ _ (then_right _ _ e) in
    (leb-true _ _ (and_left _ _ q), leb-true _ _ (and_right (leb least (byte b p)) _ q))

-- What the tests of one record say.
node_kind : (t : Tree) (n : ℕ) → node_fault t n ≡ Fine → t.kind n ≤ 4
unfolding node_fault
node_kind t n e = leb-true _ _ (unless_fine _ _ _ (then_right _ _ e))

node_parent : (t : Tree) (n : ℕ) → node_fault t n ≡ Fine → parent_right t n ≡ true
unfolding node_fault
node_parent t n e = unless_fine _ _ _ (then_left _ _ e)

root_parent : (t : Tree) → parent_right t 0 ≡ true → t.parent 0 ≡ 0
unfolding parent_right
root_parent t e = eqb-true _ _ e

inner_parent : (t : Tree) (n : ℕ) → n ≢ 0 → parent_right t n ≡ true → (t.parent n < n) × (t.kind (t.parent n) ≢ task)
unfolding parent_right
inner_parent t n z e =
    let q = rw (ne_eqb n 0 z) at e in
    (ltb-true _ _ (and_left _ _ q), eqb-false _ _ (not_true _ (and_right (ltb (t.parent n) n) _ q)))

module _ (t : Table) (k : ℕ) (e : lock_fault t k ≡ Fine) where
  lock_provider : is_scheduler t.tree (t.provider k) ≡ true
  unfolding lock_fault
  lock_provider = unless_fine _ _ _ (then_left _ _ e)

  lock_kind_lem : t.lock_kind k ≤ mask
  unfolding lock_fault
  lock_kind_lem = leb-true _ _ (unless_fine _ _ _ (then_left _ _ (then_right _ _ e)))

  lock_covered : covered_right t k ≡ true
  unfolding lock_fault
  lock_covered = unless_fine _ _ _ (then_right _ _ (then_right _ _ e))

  lock_blocker : t.lock_kind k ≡ blocking → t.covered k ≡ 0
  unfolding covered_right
  lock_blocker q = eqb-true _ _ (rw q at lock_covered)

  lock_mask : t.lock_kind k ≡ mask → is_child t.tree (t.provider k) (t.covered k) ≡ true
  unfolding covered_right
  lock_mask q = rw q at lock_covered

module _ (t : Table) (i : ℕ) (e : access_fault t i ≡ Fine) where
  access_task : is_task t.tree (t.task_of i) ≡ true
  unfolding access_fault
  access_task = unless_fine _ _ _ (then_left _ _ e)

  access_resource : t.resource_of i < t.resources
  unfolding access_fault
  access_resource = ltb-true _ _ (unless_fine _ _ _ (then_left _ _ (then_right _ _ e)))

  access_set : t.lock_set i < 2 ^ t.locks
  unfolding access_fault
  access_set = ltb-true _ _ (unless_fine _ _ _ (then_right _ _ (then_right _ _ e)))

-- The records of the sections.
module _ (b : List ℕ) (e : first_fault b ≡ Fine) where
  each_node : (n : ℕ) → n < (table_of b).tree.nodes → node_fault (table_of b).tree n ≡ Fine
  unfolding node_section node_check table_of table_at
  each_node n h = then_right _ _ (each_fine _ _ (then_right _ _ (nodes_fine b e)) n h)

  each_lock : (k : ℕ) → k < (table_of b).locks → lock_fault (table_of b) k ≡ Fine
  unfolding lock_section lock_check table_of table_at
  each_lock k h = then_right _ _ (each_fine _ _ (then_right _ _ (locks_fine b e)) k h)

  each_access : (i : ℕ) → i < (table_of b).accesses → access_fault (table_of b) i ≡ Fine
  unfolding access_section access_check table_of table_at
  each_access i h = then_right _ _ (each_fine _ _ (then_right _ _ (accesses_fine b e)) i h)

  nodes_within : (1 ≤ (table_of b).tree.nodes) × ((table_of b).tree.nodes ≤ 128)
  unfolding node_section table_of table_at counts_of
  nodes_within = count_limits b 1 1 128 (then_left _ _ (nodes_fine b e))

  locks_within : (table_of b).locks ≤ 32
  unfolding lock_section table_of table_at counts_of
  locks_within = (count_limits b _ 0 32 (then_left _ _ (locks_fine b e))).1

  resources_within : (table_of b).resources ≤ 64
  unfolding resource_section table_of table_at counts_of
  resources_within = (count_limits b _ 0 64 (then_left _ _ (resources_fine b e))).1

  accesses_within : (table_of b).accesses ≤ 128
  unfolding access_section table_of table_at counts_of
  accesses_within = (count_limits b _ 0 128 (then_left _ _ (accesses_fine b e))).1

  rooted : Rooted (table_of b).tree
  rooted =
      record {
        some = nodes_within.0;
        few = nodes_within.1;
        kinds = λ n h. node_kind _ n (each_node n h);
        root = root_parent _ (node_parent _ 0 (each_node 0 nodes_within.0));
        lower = λ n h z. (inner_parent _ n z (node_parent _ n (each_node n h))).0;
        inner = λ n h z. (inner_parent _ n z (node_parent _ n (each_node n h))).1;
      }

  fine_accepted : Accepted (table_of b)
  fine_accepted =
      record {
        tree = rooted;
        few_locks = locks_within;
        few_resources = resources_within;
        few_accesses = accesses_within;
        providers = λ k h. lock_provider _ k (each_lock k h);
        lock_kinds = λ k h. lock_kind_lem _ k (each_lock k h);
        blockers = λ k h. lock_blocker _ k (each_lock k h);
        masks = λ k h. lock_mask _ k (each_lock k h);
        tasks = λ i h. access_task _ i (each_access i h);
        known = λ i h. access_resource _ i (each_access i h);
        sets = λ i h. access_set _ i (each_access i h);
      }

-- What is due and fine ends within the bytes.
due_within : (b : List ℕ) (e : ℕ) → due b e ≡ Fine → e ≤ length b
unfolding due
due_within b e q = leb-true e (length b) (unless_fine _ _ _ q)

-- Records of six bytes from p on, each of which ends at m or before.
records_within : (p m n : ℕ) → p ≤ m → ((i : ℕ) → i < n → p + i * 6 + 6 ≤ m) → p + n * 6 ≤ m
records_within p m zero h f = omega arith
records_within p m (suc n) h f = let q = f n (omega arith) in omega arith

-- Bytes with no fault hold every record, up to the last access.
module _ (b : List ℕ) (e : first_fault b ≡ Fine) where
  pub fine_stands : end_at (counts_of b) ≤ length b
  unfolding access_section access_check count_check
  fine_stands =
      let s = accesses_fine b e in
      records_within _ _ _
      (due_within b _ (then_left _ _ (then_left _ _ s)))
      (λ i h. due_within b _ (then_left _ _ (each_fine _ _ (then_right _ _ s) i h)))

pub accepted : (b : List ℕ) (t : Table) → read b ≡ Is t → Accepted t
accepted b t e = rw (read_table b t e) (fine_accepted b (read_fine b t e))

pub stands : (b : List ℕ) (t : Table) → read b ≡ Is t → end_at (counts_in t) ≤ length b
unfolding counts_in table_of table_at
stands b t e = rw (read_table b t e) (fine_stands b (read_fine b t e))

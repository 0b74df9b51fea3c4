-- Two inputs of at least 1,254 bytes that agree on the first 1,254 have the same first fault: no due thing of a table ends past byte 1,253, so
-- they pass and fail the same tests, and the last test, that nothing follows the accesses, refuses both at the same place.
-- Assumes nothing.
use Prim.Native.Nat.{ℕ, zero, suc, ◌+◌, ◌<◌, ◌≤◌}
use mathlib.Core.Path.{◌≡◌, refl, ap, ap₂}
use mathlib.Core.Bool.{Bool, true, false, not, ◌&&◌, cond}
use mathlib.Core.List.{List}
use native.Mathlib.Omega.{arith}
use lib.Dec.{ltb, eqb}
use lib.ListN.{length}
use borrow.Author.Tests.{le-leb, lt-leb, ltb-true}
use Rattle.rules.specs.Table.{Tree, Table, is_task, is_scheduler, is_child}
use Rattle.rules.specs.Reading.{Check, Fine, Fault, ◌and_then◌, unless, each, due, byte, four_bytes, counts_in, counts_of, table_at, locks_at, resources_at, accesses_at, nodes_at, end_at, max_nodes, max_locks, max_resources, max_accesses, parent_right, covered_right, node_fault, lock_fault, access_fault, count_check, node_check, lock_check, resource_check, access_check, form_section, node_section, lock_section, resource_section, access_section, end_section, first_fault}
use Rattle.rules.proofs.Bools.{and_left}
use Rattle.rules.proofs.Accepted.{count_limits}
use Rattle.rules.proofs.Reading.{then_left}

-- Two chains are the same where their first parts are, and the rest are where the first part is fine.
then_same : (a a' x x' : Check) → a ≡ a' → (a ≡ Fine → x ≡ x') → (a and_then x) ≡ (a' and_then x')
unfolding ◌and_then◌
then_same Fine a' x x' e f = rw (← e) (f refl)
then_same (Fault n p) a' x x' e f = rw (← e)

each_alike : (m : ℕ) (f g : ℕ → Check) → ((k : ℕ) → k < m → f k ≡ g k) → each m f ≡ each m g
unfolding each
each_alike zero f g h = refl
each_alike (suc m) f g h = ap₂ ◌and_then◌ (each_alike m f g (λ k l. h k (omega arith))) (h m (omega arith))

each_same : (n m : ℕ) (f g : ℕ → Check) → n ≡ m → ((k : ℕ) → k < m → f k ≡ g k) → each n f ≡ each m g
each_same n m f g e h = rw e (each_alike m f g h)

-- Of a test whose first part fails the second is no matter.
and_same : (a x y : Bool) → (a ≡ true → x ≡ y) → (a && x) ≡ (a && y)
and_same true x y f = f refl
and_same false x y f = refl

below_same : (n m : ℕ) (x y : Bool) → (n < m → x ≡ y) → (ltb n m && x) ≡ (ltb n m && y)
below_same n m x y f = and_same (ltb n m) x y (λ h. f (ltb-true n m h))

-- A count that is fine lies within its limit.
module _ (b : List ℕ) where
  nodes_few : count_check b nodes_at 1 max_nodes ≡ Fine → (counts_of b).nodes ≤ 128
  unfolding counts_of
  nodes_few e = (count_limits b _ 1 128 e).1

  locks_few : count_check b (locks_at (counts_of b).nodes) 0 max_locks ≡ Fine → (counts_of b).locks ≤ 32
  unfolding counts_of
  locks_few e = (count_limits b _ 0 32 e).1

  resources_few : count_check b (resources_at (counts_of b).nodes (counts_of b).locks) 0 max_resources ≡ Fine → (counts_of b).resources ≤ 64
  unfolding counts_of
  resources_few e = (count_limits b _ 0 64 e).1

  accesses_few :
      count_check b (accesses_at (counts_of b).nodes (counts_of b).locks (counts_of b).resources) 0 max_accesses ≡ Fine → (counts_of b).accesses ≤ 128
  unfolding counts_of
  accesses_few e = (count_limits b _ 0 128 e).1

-- Trees with the same records.
record Alike (t u : Tree) : Type 0 where
  nodes : t.nodes ≡ u.nodes
  few : u.nodes ≤ 128
  parent : (n : ℕ) → n < 128 → t.parent n ≡ u.parent n
  kind : (n : ℕ) → n < 128 → t.kind n ≡ u.kind n

module _ (t u : Tree) (s : Alike t u) where
  task_same : (n : ℕ) → is_task t n ≡ is_task u n
  unfolding is_task
  task_same n = rw s.nodes (below_same n u.nodes _ _ (λ h. rw (s.kind n (omega (arith, s.few)))))

  scheduler_same : (n : ℕ) → is_scheduler t n ≡ is_scheduler u n
  unfolding is_scheduler
  scheduler_same n = rw s.nodes (below_same n u.nodes _ _ (λ h. rw (s.kind n (omega (arith, s.few)))))

  child_same : (p c : ℕ) → is_child t p c ≡ is_child u p c
  unfolding is_child
  child_same p c =
      rw s.nodes (and_same (ltb c u.nodes && not (eqb c 0)) _ _ (λ h. rw (s.parent c (omega (arith, s.few, ltb-true c u.nodes (and_left _ _ h))))))

  parent_same : (n : ℕ) → n < 128 → parent_right t n ≡ parent_right u n
  unfolding parent_right
  parent_same n l =
      rw (s.parent n l) (ap (cond (eqb n 0) (eqb (u.parent n) 0)) (below_same (u.parent n) n _ _ (λ h. rw (s.kind (u.parent n) (omega arith)))))

  node_same : (n : ℕ) → n < 128 → node_fault t n ≡ node_fault u n
  unfolding node_fault
  node_same n l = rw (parent_same n l, s.kind n l)

-- Tables with the same locks, and with the same accesses.
module _ (t u : Table) (s : Alike t.tree u.tree) where
  lock_same : (k : ℕ) → t.provider k ≡ u.provider k → t.lock_kind k ≡ u.lock_kind k → t.covered k ≡ u.covered k
      → lock_fault t k ≡ lock_fault u k
  unfolding lock_fault covered_right counts_in
  lock_same k p q r = rw (p, q, r, scheduler_same _ _ s, child_same _ _ s, s.nodes)

  access_same : (i : ℕ) → t.locks ≡ u.locks → t.resources ≡ u.resources
      → t.task_of i ≡ u.task_of i → t.resource_of i ≡ u.resource_of i → t.lock_set i ≡ u.lock_set i → access_fault t i ≡ access_fault u i
  unfolding access_fault counts_in
  access_same i e f p q r = rw (p, q, r, e, f, task_same _ _ s, s.nodes)

-- Two inputs of at least 1,254 bytes, the first 1,254 the same.
module _ (b c : List ℕ) (lb : 1254 ≤ length b) (lc : 1254 ≤ length c) (same : (p : ℕ) → p < 1254 → byte b p ≡ byte c p) where
  byte_same : (p q : ℕ) → p ≡ q → q < 1254 → byte b p ≡ byte c q
  byte_same p q e h = rw e (same q h)

  set_same : (p q : ℕ) → p ≡ q → q + 3 < 1254 → four_bytes b p ≡ four_bytes c q
  set_same p q e h = rw (e, same q (omega arith), same (q + 1) (omega arith), same (q + 2) (omega arith), same (q + 2 + 1) (omega arith))

  due_same : (p q : ℕ) → p ≡ q → q ≤ 1254 → due b p ≡ due c q
  unfolding due unless
  due_same p q e h = rw (e, le-leb q (length b) (omega arith), le-leb q (length c) (omega arith))

  count_same : (p q least most : ℕ) → p ≡ q → q < 1254 → count_check b p least most ≡ count_check c q least most
  unfolding count_check
  count_same p q least most e h = rw (e, due_same (q + 1) (q + 1) refl (omega arith), same q h)

  -- The counts, each the same where those before it are within their limits.
  nodes_same : (counts_of b).nodes ≡ (counts_of c).nodes
  unfolding counts_of
  nodes_same = same 1 (omega arith)

  form_section_lem : form_section b ≡ form_section c
  unfolding form_section
  form_section_lem = rw (due_same 1 1 refl (omega arith), same 0 (omega arith))

  module _ (n : (counts_of c).nodes ≤ 128) where
    locks_same : (counts_of b).locks ≡ (counts_of c).locks
    unfolding counts_of
    locks_same = byte_same _ _ (omega (arith, nodes_same)) (omega (arith, n))

    tree_same : Alike (table_at (counts_of b) b).tree (table_at (counts_of c) c).tree
    unfolding table_at
    tree_same =
        record {
          nodes = nodes_same;
          few = n;
          parent = λ m h. same _ (omega arith);
          kind = λ m h. same _ (omega arith);
        }

    node_check_lem : (k : ℕ) → k < 128 → node_check (counts_of b) b k ≡ node_check (counts_of c) c k
    unfolding node_check
    node_check_lem k h = ap₂ ◌and_then◌ (due_same _ _ refl (omega arith)) (node_same _ _ tree_same k h)

    lock_check_lem : (k : ℕ) → k < 32 → lock_check (counts_of b) b k ≡ lock_check (counts_of c) c k
    unfolding lock_check table_at
    lock_check_lem k h =
        ap₂ ◌and_then◌ (due_same _ _ (omega (arith, nodes_same)) (omega (arith, n))) (lock_same _ _ tree_same k
        (byte_same _ _ (omega (arith, nodes_same)) (omega (arith, n)))
        (byte_same _ _ (omega (arith, nodes_same)) (omega (arith, n)))
        (byte_same _ _ (omega (arith, nodes_same)) (omega (arith, n))))

    module _ (k : (counts_of c).locks ≤ 32) where
      resources_same : (counts_of b).resources ≡ (counts_of c).resources
      unfolding counts_of
      resources_same = byte_same _ _ (omega (arith, nodes_same, locks_same)) (omega (arith, n, k))

      resource_check_lem : (r : ℕ) → r < 64 → resource_check (counts_of b) b r ≡ resource_check (counts_of c) c r
      unfolding resource_check
      resource_check_lem r h = due_same _ _ (omega (arith, nodes_same, locks_same)) (omega arith)

      module _ (r : (counts_of c).resources ≤ 64) where
        accesses_same : (counts_of b).accesses ≡ (counts_of c).accesses
        unfolding counts_of
        accesses_same = byte_same _ _ (omega (arith, nodes_same, locks_same, resources_same)) (omega (arith, n, k, r))

        access_check_lem : (i : ℕ) → i < 128 → access_check (counts_of b) b i ≡ access_check (counts_of c) c i
        unfolding access_check table_at
        access_check_lem i h =
            ap₂ ◌and_then◌ (due_same _ _ (omega (arith, nodes_same, locks_same, resources_same)) (omega arith))
            (access_same _ _ tree_same i locks_same resources_same
            (byte_same _ _ (omega (arith, nodes_same, locks_same, resources_same)) (omega arith))
            (byte_same _ _ (omega (arith, nodes_same, locks_same, resources_same)) (omega arith))
            (set_same _ _ (omega (arith, nodes_same, locks_same, resources_same)) (omega arith)))

        -- Nothing may follow the accesses, and something does.
        end_section_lem : (counts_of c).accesses ≤ 128 → end_section (counts_of b) b ≡ end_section (counts_of c) c
        unfolding end_section unless
        end_section_lem a =
            rw (lt-leb (length b) (end_at (counts_of b)) (omega (arith, nodes_same, locks_same, resources_same, accesses_same)), lt-leb (length c) (end_at (counts_of c)) (omega arith))
            (ap (Fault 11) (omega (arith, nodes_same, locks_same, resources_same, accesses_same)))

        access_section_lem : access_section (counts_of b) b ≡ access_section (counts_of c) c
        unfolding access_section
        access_section_lem =
            then_same _ _ _ _ (count_same _ _ 0 128 (omega (arith, nodes_same, locks_same, resources_same)) (omega arith)) (λ e.
            each_same _ _ _ _ accesses_same (λ i h. access_check_lem i (omega (arith, accesses_same, accesses_few b e))))

      resource_section_lem : resource_section (counts_of b) b ≡ resource_section (counts_of c) c
      unfolding resource_section
      resource_section_lem =
          then_same _ _ _ _ (count_same _ _ 0 64 (omega (arith, nodes_same, locks_same)) (omega arith)) (λ e.
          each_same _ _ _ _ resources_same (λ r h. resource_check_lem r (omega (arith, resources_same, resources_few b e))))

    lock_section_lem : lock_section (counts_of b) b ≡ lock_section (counts_of c) c
    unfolding lock_section
    lock_section_lem =
        then_same _ _ _ _ (count_same _ _ 0 32 (omega (arith, nodes_same)) (omega arith)) (λ e.
        each_same _ _ _ _ locks_same (λ k h. lock_check_lem k (omega (arith, locks_same, locks_few b e))))

  node_section_lem : node_section (counts_of b) b ≡ node_section (counts_of c) c
  unfolding node_section
  node_section_lem =
      then_same _ _ _ _ (count_same 1 1 1 128 refl (omega arith)) (λ e.
      let n : (counts_of c).nodes ≤ 128 = omega (arith, nodes_same, nodes_few b e) in
      each_same _ _ _ _ nodes_same (λ k h. node_check_lem n k (omega arith)))

  pub fault_same : first_fault b ≡ first_fault c
  unfolding first_fault node_section lock_section resource_section access_section
  fault_same =
      then_same _ _ _ _ form_section_lem (λ _.
      then_same _ _ _ _ node_section_lem (λ e.
      let n : (counts_of c).nodes ≤ 128 = omega (arith, nodes_same, nodes_few b (then_left _ _ e)) in
      then_same _ _ _ _ (lock_section_lem n) (λ e.
      let k : (counts_of c).locks ≤ 32 = omega (arith, locks_same n, locks_few b (then_left _ _ e)) in
      then_same _ _ _ _ (resource_section_lem n k) (λ e.
      let r : (counts_of c).resources ≤ 64 = omega (arith, resources_same n k, resources_few b (then_left _ _ e)) in
      then_same _ _ _ _ (access_section_lem n k r) (λ e.
      let a : (counts_of c).accesses ≤ 128 = omega (arith, accesses_same n k r, accesses_few b (then_left _ _ e)) in
      end_section_lem n k r a)))))

-- Reading: the table that a list of bytes is, or its first fault with its number and place.
-- Assumes nothing.
use Rattle.std.specs.Prelude.{ℕ, zero, suc, ◌+◌, ◌*◌, ◌^◌, Bool, true, false, not, ◌&&◌, cond, List, ltb, leb, eqb, length, get_or}
use Rattle.rules.specs.Table.{Tree, Table, task, time_sliced, blocking, mask, is_task, is_scheduler, is_child}

-- The limits of the four counts.
abbrev pub max_nodes : ℕ
max_nodes = 128

abbrev pub max_locks : ℕ
max_locks = 32

abbrev pub max_resources : ℕ
max_resources = 64

abbrev pub max_accesses : ℕ
max_accesses = 128

-- Numbers are one byte, two or four; high byte first.
abbrev pub byte : List ℕ → ℕ → ℕ
byte b p = get_or b p 0

abbrev pub two_bytes : List ℕ → ℕ → ℕ
two_bytes b p = byte b p * 256 + byte b (p + 1)

abbrev pub four_bytes : List ℕ → ℕ → ℕ
four_bytes b p = two_bytes b p * 65536 + two_bytes b (p + 2)

-- The form stands at 0 and the count of nodes at 1. Each later count stands after the records before it.
abbrev pub nodes_at : ℕ
nodes_at = 1

abbrev pub locks_at : ℕ → ℕ
locks_at nodes = 2 + nodes * 2

abbrev pub resources_at : ℕ → ℕ → ℕ
resources_at nodes locks = locks_at nodes + 1 + locks * 3

abbrev pub accesses_at : ℕ → ℕ → ℕ → ℕ
accesses_at nodes locks resources = resources_at nodes locks + 1 + resources * 2

-- The four counts of a table.
pub record Counts : Type 0 where
  pub nodes : ℕ
  pub locks : ℕ
  pub resources : ℕ
  pub accesses : ℕ

-- The records: parent, kind; provider, kind, covered node; label in two bytes; task, resource, lock set in four bytes.
abbrev pub node_at : ℕ → ℕ
node_at n = 2 + n * 2

abbrev pub lock_at : Counts → ℕ → ℕ
lock_at c k = locks_at c.nodes + 1 + k * 3

abbrev pub resource_at : Counts → ℕ → ℕ
resource_at c r = resources_at c.nodes c.locks + 1 + r * 2

abbrev pub access_at : Counts → ℕ → ℕ
access_at c i = accesses_at c.nodes c.locks c.resources + 1 + i * 6

-- Nothing follows the accesses.
abbrev pub end_at : Counts → ℕ
end_at c = access_at c c.accesses

-- The table with these counts that stands in the bytes b.
unfoldable pub table_at : Counts → List ℕ → Table
table_at c b =
    record {
      tree = record {
        nodes = c.nodes;
        parent = λ n. byte b (node_at n);
        kind = λ n. byte b (node_at n + 1);
      };
      locks = c.locks;
      resources = c.resources;
      accesses = c.accesses;
      provider = λ k. byte b (lock_at c k);
      lock_kind = λ k. byte b (lock_at c k + 1);
      covered = λ k. byte b (lock_at c k + 2);
      label = λ r. two_bytes b (resource_at c r);
      task_of = λ i. byte b (access_at c i);
      resource_of = λ i. byte b (access_at c i + 1);
      lock_set = λ i. four_bytes b (access_at c i + 2);
    }

-- The counts that stand in the bytes b, each where those before it put it.
unfoldable pub counts_of : List ℕ → Counts
counts_of b =
    let n = byte b nodes_at in
    let k = byte b (locks_at n) in
    let r = byte b (resources_at n k) in
    let a = byte b (accesses_at n k r) in
    record { nodes = n; locks = k; resources = r; accesses = a }

unfoldable pub table_of : List ℕ → Table
table_of b = table_at (counts_of b) b

-- A check passes, or finds a fault: a refusal's number and place.
pub data Check : Type 0 where
  Fine : Check
  Fault : ℕ → ℕ → Check

infixr 20 ◌and_then◌
-- The first fault ends the reading.
unfoldable pub ◌and_then◌ : Check → Check → Check
Fine and_then d = d
(Fault n p) and_then d = Fault n p

-- Fault n at p, unless the test passes.
unfoldable pub unless : Bool → ℕ → ℕ → Check
unless true n p = Fine
unless false n p = Fault n p

-- The first fault among those of records 0 .. n - 1.
unfoldable pub each : ℕ → (ℕ → Check) → Check
each zero f = Fine
each (suc n) f = each n f and_then f n

-- 1: the due byte, count or record, which ends at e, runs past the end.
unfoldable pub due : List ℕ → ℕ → Check
due b e = unless (leb e (length b)) 1 (length b)

-- The root's parent byte is 0; every other node's parent has a smaller number and is no task.
unfoldable pub parent_right : Tree → ℕ → Bool
parent_right t n =
    cond (eqb n 0) (eqb (t.parent n) 0) (ltb (t.parent n) n && not (eqb (t.kind (t.parent n)) task))

-- A blocking lock has covered node 0; a mask names one child of its provider.
unfoldable pub covered_right : Table → ℕ → Bool
covered_right t k =
    cond (eqb (t.lock_kind k) blocking) (eqb (t.covered k) 0) (is_child t.tree (t.provider k) (t.covered k))

-- The counts of a table that has forgotten its bytes: they still say where each record stands.
unfoldable pub counts_in : Table → Counts
counts_in t =
    record { nodes = t.tree.nodes; locks = t.locks; resources = t.resources; accesses = t.accesses }

-- The fields of a record that is complete are tested left to right. 4: a parent; 5: a node's kind.
unfoldable pub node_fault : Tree → ℕ → Check
node_fault t n =
    unless (parent_right t n) 4 (node_at n)
    and_then unless (leb (t.kind n) time_sliced) 5 (node_at n + 1)

-- 6: the provider; 5: a lock's kind; 7: the covered node.
unfoldable pub lock_fault : Table → ℕ → Check
lock_fault t k =
    let at = lock_at (counts_in t) k in
    unless (is_scheduler t.tree (t.provider k)) 6 at
    and_then unless (leb (t.lock_kind k) mask) 5 (at + 1)
    and_then unless (covered_right t k) 7 (at + 2)

-- 8: the task; 9: the resource; 10: a set with a bit K or above.
unfoldable pub access_fault : Table → ℕ → Check
access_fault t i =
    let at = access_at (counts_in t) i in
    unless (is_task t.tree (t.task_of i)) 8 at
    and_then unless (ltb (t.resource_of i) t.resources) 9 (at + 1)
    and_then unless (ltb (t.lock_set i) (2 ^ t.locks)) 10 (at + 2)

-- 2: the form.
unfoldable pub form_section : List ℕ → Check
form_section b = due b 1 and_then unless (eqb (byte b 0) 1) 2 0

-- 3: the count at p, outside its limits.
unfoldable pub count_check : List ℕ → ℕ → ℕ → ℕ → Check
count_check b p least most =
    due b (p + 1) and_then unless (leb least (byte b p) && leb (byte b p) most) 3 p

-- Each record is complete before its fields are tested. A resource's label may have any value.
unfoldable pub node_check : Counts → List ℕ → ℕ → Check
node_check c b n = due b (node_at n + 2) and_then node_fault (table_at c b).tree n

unfoldable pub lock_check : Counts → List ℕ → ℕ → Check
lock_check c b k = due b (lock_at c k + 3) and_then lock_fault (table_at c b) k

unfoldable pub resource_check : Counts → List ℕ → ℕ → Check
resource_check c b r = due b (resource_at c r + 2)

unfoldable pub access_check : Counts → List ℕ → ℕ → Check
access_check c b i = due b (access_at c i + 6) and_then access_fault (table_at c b) i

-- Each section: its count, and then its records.
unfoldable pub node_section : Counts → List ℕ → Check
node_section c b = count_check b nodes_at 1 max_nodes and_then each c.nodes (node_check c b)

unfoldable pub lock_section : Counts → List ℕ → Check
lock_section c b = count_check b (locks_at c.nodes) 0 max_locks and_then each c.locks (lock_check c b)

unfoldable pub resource_section : Counts → List ℕ → Check
resource_section c b =
    count_check b (resources_at c.nodes c.locks) 0 max_resources and_then each c.resources (resource_check c b)

unfoldable pub access_section : Counts → List ℕ → Check
access_section c b =
    count_check b (accesses_at c.nodes c.locks c.resources) 0 max_accesses
    and_then each c.accesses (access_check c b)

-- 11: bytes follow the last access.
unfoldable pub end_section : Counts → List ℕ → Check
end_section c b = unless (leb (length b) (end_at c)) 11 (end_at c)

-- The sections in their fixed order.
unfoldable pub first_fault : List ℕ → Check
first_fault b =
    form_section b
    and_then node_section (counts_of b) b
    and_then lock_section (counts_of b) b
    and_then resource_section (counts_of b) b
    and_then access_section (counts_of b) b
    and_then end_section (counts_of b) b

-- What reading gives.
pub data Reading : Type 0 where
  Is : Table → Reading
  Refused : ℕ → ℕ → Reading

-- The table, unless there is a fault.
unfoldable pub concluded : Check → Table → Reading
concluded Fine t = Is t
concluded (Fault n p) t = Refused n p

unfoldable pub read : List ℕ → Reading
read b = concluded (first_fault b) (table_of b)

-- What the words of each node, resource and lock hold while the rows are made. Bit j of a word stands for the access `base + j`.
-- Assumes nothing.
use Rattle.std.specs.Prelude.{ℕ, ◌+◌, ◌^◌, ◌<◌, ◌≤◌, ◌≡◌, Bool, true, not, ◌&&◌, ◌||◌, cond, List, ltb, eqb, length, get_or}
use Rattle.std.specs.Int.Bits.{bit_and, bit_or}
use Rattle.rules.specs.Bounded.{some_below}
use Rattle.rules.specs.Table.{Tree, Table, preemptive, time_sliced, blocking, mask, is_task}
use Rattle.rules.specs.Preemption.{at_or_below, nearest_common, child_above, allows}
use Rattle.rules.specs.Locks.{in_set}
use Rattle.rules.specs.Races.{race}
use Rattle.rows.specs.Rows.{Kept}

-- Of w words the one at c has the accesses, of the n from base on, whose key is c.
pub record Marked (w : ℕ) (key : ℕ → ℕ) (base n : ℕ) (m : List ℕ) : Type 0 where
  pub sized : length m ≡ w
  pub bits : (c j : ℕ) → j < 64 → in_set j (get_or m c 0) ≡ (ltb j n && eqb (key (base + j)) c)

-- A bit that stood at node x alone now stands at x and at all above it.
pub record Gathered (t : Tree) (m₀ m : List ℕ) : Type 0 where
  pub bits : (j x : ℕ) → x < t.nodes → ((c : ℕ) → c < t.nodes → in_set j (get_or m₀ c 0) ≡ eqb x c)
      → (c : ℕ) → c < t.nodes → in_set j (get_or m c 0) ≡ at_or_below t x c

-- Task x may preempt what is at or below node c, by a scheduler above c. It preempts nothing that it is itself below.
unfoldable pub may_preempt_at : Tree → ℕ → ℕ → Bool
may_preempt_at t x c =
    let p = nearest_common t x c in
    not (at_or_below t x c) && allows t p (child_above t p x) (child_above t p c)

-- One step down the tree, to a child of a scheduler of kind k: the task preempts the scheduler, or is below a higher sibling, or is below
-- the scheduler but not below the child itself.
unfoldable pub step_down : ℕ → Bool → Bool → Bool → Bool → Bool
step_down k over higher all own =
    cond (eqb k preemptive) (over || higher) (cond (eqb k time_sliced) (over || (all && not own)) over)

-- The same of the words, bit by bit.
pub record SteppedDown (k over higher all own r : ℕ) : Type 0 where
  pub bits : (j : ℕ) → j < 64 → in_set j r ≡ step_down k (in_set j over) (in_set j higher) (in_set j all) (in_set j own)

-- Where a bit of sub tells what task x is below, the same bit of pre tells what it may preempt.
pub record Preempted (t : Tree) (sub pre : List ℕ) : Type 0 where
  pub bits : (j x : ℕ) → j < 64 → is_task t x ≡ true → ((c : ℕ) → c < t.nodes → in_set j (get_or sub c 0) ≡ at_or_below t x c)
      → (c : ℕ) → c < t.nodes → in_set j (get_or pre c 0) ≡ may_preempt_at t x c

-- The set b, and lock k if the test passes.
unfoldable pub add_lock : Bool → ℕ → ℕ → ℕ
add_lock q k b = cond q (bit_or b (2 ^ k)) b

-- The blocking ones of the first n locks.
pub record Blocking (t : Table) (n b : ℕ) : Type 0 where
  pub bits : (k : ℕ) → k < 32 → in_set k b ≡ (ltb k n && eqb (t.lock_kind k) blocking)

-- The accesses of a word are added to the words of the locks of a set.
pub record Held (accesses set : ℕ) (g₀ g : List ℕ) : Type 0 where
  pub sized : length g ≡ 32
  pub words : (k : ℕ) → get_or g k 0 ≡ cond (in_set k set) (bit_or (get_or g₀ k 0) accesses) (get_or g₀ k 0)

-- The word of lock k has its holders, where it is a lock of b.
pub record Holders (sets : ℕ → ℕ) (base n b : ℕ) (g : List ℕ) : Type 0 where
  pub sized : length g ≡ 32
  pub bits : (k j : ℕ) → j < 64 → in_set j (get_or g k 0) ≡ (ltb j n && (in_set k (sets (base + j)) && in_set k b))

-- The word of a mask, of the first n locks, is that of its covered node; the others are as they were.
pub record Masks (t : Table) (n : ℕ) (sub g₀ g : List ℕ) : Type 0 where
  pub words : (k : ℕ) → get_or g k 0 ≡ cond (ltb k n && eqb (t.lock_kind k) mask) (get_or sub (t.covered k) 0) (get_or g₀ k 0)

-- The bits of w that v has not.
pub record Without (w v r : ℕ) : Type 0 where
  pub less : r ≤ w
  pub bits : (j : ℕ) → j < 64 → in_set j r ≡ (in_set j w && not (in_set j v))

-- The bits of w without those of the words of the locks of a set.
pub record Unguarded (g : List ℕ) (w set r : ℕ) : Type 0 where
  pub fits : r < 2 ^ 64
  pub bits : (j : ℕ) → j < 64 → in_set j r ≡ (in_set j w && not (some_below 32 (λ k. in_set k set && in_set j (get_or g k 0))))

-- The word of each of the first m accesses: its resource's and its task's, without those of its locks.
pub record Filled (t : Table) (same pre g : List ℕ) (m : ℕ) (rows₀ rows : List ℕ) : Type 0 where
  pub words : (i : ℕ) → i < m
      → Unguarded g (bit_and (get_or same (t.resource_of i) 0) (get_or pre (t.task_of i) 0)) (t.lock_set i) (get_or rows i 0)
  pub kept : Kept m rows₀ rows

-- The row of each access against the n from base on.
pub record HalfRows (t : Table) (base n : ℕ) (rows₀ rows : List ℕ) : Type 0 where
  pub fits : (i : ℕ) → i < t.accesses → get_or rows i 0 < 2 ^ 64
  pub bits : (i : ℕ) → i < t.accesses → (j : ℕ) → j < 64 → in_set j (get_or rows i 0) ≡ (ltb j n && race t i (base + j))
  pub kept : Kept t.accesses rows₀ rows

-- The first m words are 0.
pub record Cleared (m : ℕ) (rows₀ rows : List ℕ) : Type 0 where
  pub words : (i : ℕ) → i < m → get_or rows i 0 ≡ 0
  pub kept : Kept m rows₀ rows

-- A bit that stood at node a alone now stands at a and at all below it.
pub record Inherited (t : Tree) (m₀ m : List ℕ) : Type 0 where
  pub bits : (k a : ℕ) → a < t.nodes → ((c : ℕ) → c < t.nodes → in_set k (get_or m₀ c 0) ≡ eqb a c)
      → (c : ℕ) → c < t.nodes → in_set k (get_or m c 0) ≡ at_or_below t c a

-- The locks of set and b that over has not.
pub record NotOver (set b over r : ℕ) : Type 0 where
  pub fits : r < 2 ^ 32
  pub bits : (k : ℕ) → k < 32 → in_set k r ≡ ((in_set k set && in_set k b) && not (in_set k over))

-- The word of each of the first m accesses: the locks of its set and of b that no node above its task provides.
pub record Unprovided (t : Table) (b : ℕ) (over : List ℕ) (m : ℕ) (rows₀ rows : List ℕ) : Type 0 where
  pub words : (i : ℕ) → i < m → NotOver (t.lock_set i) b (get_or over (t.task_of i) 0) (get_or rows i 0)
  pub kept : Kept m rows₀ rows

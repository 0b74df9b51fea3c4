-- The states of the machine: what stands where in a well-formed one, what a written place changes, and the fresh state.
-- Assumes nothing.
use Prim.Native.Nat.{ℕ, ◌+◌, ◌-◌, ◌<◌}
use mathlib.Core.Path.{◌≡◌, refl, sym, ◌∙◌}
use mathlib.Core.Logic.{◌≢◌}
use mathlib.Core.Bool.{true}
use mathlib.Core.List.{List}
use native.Mathlib.Decide.{ℕ_discrete, dec_lt}
use native.Mathlib.Omega.{arith}
use lib.Dec.{eqb, leb, ltb}
use lib.ListN.{length, set, replicate, length-set, get_or-replicate, get_or-eq_default}
use lib.Seq.{get_or-set_same, get_or-set_other, ext_get_or}
use borrow.Author.Tests.{eqb-true, eq-eqb, ne_eqb, ltb-true, lt-ltb, le-leb}
use Rattle.rules.specs.Table.{Table, is_task}
use Rattle.rules.specs.Machine.{places, place, idle, outside, inside, fresh, place_right, well_formed}
use Rattle.rules.proofs.Bools.{and_left, and_right, and_both}
use Rattle.rules.proofs.Bounded.{all_at, all_from}

-- A place outside the list counts as idle, so an active task has a place.
pub active_below : (s : List ℕ) → length s ≡ places → (n : ℕ) → place s n ≢ idle → n < places
active_below s e n z = near (dec_lt n places)
  where
    near : Dec (n < places) → n < places
    near (yes h) = h
    near (no h) = absurd (z (get_or-eq_default s 0 (omega arith)))

-- What a state has at its places after one of them is written.
pub place_same : (s : List ℕ) (x v : ℕ) → length s ≡ places → x < places → place (set s x v) x ≡ v
place_same s x v e h = get_or-set_same s x v 0 (omega arith)

pub place_other : (s : List ℕ) (x v u : ℕ) → u ≢ x → place (set s x v) u ≡ place s u
place_other s x v u q = get_or-set_other s x u v 0 q

-- A task's number is a node's.
pub task_below : (t : Table) (n : ℕ) → is_task t.tree n ≡ true → n < t.tree.nodes
unfolding is_task
task_below t n e = ltb-true _ _ (and_left _ _ e)

-- What may stand at a place: idle anywhere, outside at a task, inside access i at its task.
pub idle_right : (t : Table) (n : ℕ) → place_right t n idle ≡ true
unfolding place_right
idle_right t n = refl

pub outside_right : (t : Table) (n : ℕ) → is_task t.tree n ≡ true → place_right t n outside ≡ true
unfolding place_right
outside_right t n e = rw e

pub inside_right : (t : Table) (i : ℕ) → i < t.accesses → is_task t.tree (t.task_of i) ≡ true
    → place_right t (t.task_of i) (inside i) ≡ true
unfolding place_right
inside_right t i h e =
    let q : 2 + i - 2 ≡ i = omega arith in
    let r : leb 2 (2 + i) ≡ true = le-leb 2 (2 + i) (omega arith) in
    rw (ne_eqb (2 + i) 0 (omega arith), e, ne_eqb (2 + i) 1 (omega arith), r, q, lt-ltb _ _ h, eq-eqb (t.task_of i) (t.task_of i) refl)

-- And the other way round: what is not idle stands at a task, and what is inside an access stands at the task of an existing one.
right_task : (t : Table) (n v : ℕ) → place_right t n v ≡ true → v ≢ idle → is_task t.tree n ≡ true
unfolding place_right
right_task t n v e z = and_left _ _ (rw (ne_eqb v 0 z) at e)

right_access : (t : Table) (n i : ℕ) → place_right t n (inside i) ≡ true → (i < t.accesses) × (t.task_of i ≡ n)
unfolding place_right
right_access t n i e =
    let q : 2 + i - 2 ≡ i = omega arith in
    let r = rw (ne_eqb (2 + i) 0 (omega arith), ne_eqb (2 + i) 1 (omega arith), le-leb 2 (2 + i) (omega arith), q) at e in
    let a = and_right (is_task t.tree n) _ r in
    (ltb-true _ _ (and_left _ _ a), eqb-true _ _ (and_right (ltb i t.accesses) _ a))

module _ (t : Table) (s : List ℕ) (formed : well_formed t s ≡ true) where
  pub formed_length : length s ≡ places
  unfolding well_formed
  formed_length = eqb-true _ _ (and_left _ _ formed)

  formed_place : (n : ℕ) → n < places → place_right t n (place s n) ≡ true
  unfolding well_formed
  formed_place n h = all_at places _ (and_right (eqb (length s) places) _ formed) n h

  -- Only tasks are active.
  pub active_task : (n : ℕ) → place s n ≢ idle → is_task t.tree n ≡ true
  active_task n z = right_task t n (place s n) (formed_place n (active_below s formed_length n z)) z

  -- Who is inside an access is the task of an existing one.
  pub inside_access : (n i : ℕ) → place s n ≡ inside i → (i < t.accesses) × (t.task_of i ≡ n)
  inside_access n i e = right_access t n i (rw e at (formed_place n (active_below s formed_length n (omega arith))))

  -- A right value at a place keeps a state well formed.
  pub set_formed : (x v : ℕ) → x < places → place_right t x v ≡ true → well_formed t (set s x v) ≡ true
  unfolding well_formed
  set_formed x v h r = and_both _ _ (eq-eqb _ _ (length-set s x v ∙ formed_length)) (all_from places _ (λ n l. one n l (ℕ_discrete n x)))
    where
      one : (n : ℕ) → n < places → Dec (n ≡ x) → place_right t n (place (set s x v) n) ≡ true
      one n l (yes q) = rw (q, place_same s x v formed_length h) r
      one n l (no q) = rw (place_other s x v n q) (formed_place n l)

-- The fresh state: all idle, and the only state that is.
fresh_length : length fresh ≡ places
unfolding fresh
fresh_length = refl

pub fresh_idle : (n : ℕ) → place fresh n ≡ idle
unfolding fresh
fresh_idle n = near (dec_lt n places)
  where
    near : Dec (n < places) → place (replicate places idle) n ≡ idle
    near (yes h) = get_or-replicate places n 0 0 h
    near (no h) = get_or-eq_default (replicate places idle) 0 {n = n} (omega arith)

pub fresh_formed : (t : Table) → well_formed t fresh ≡ true
unfolding well_formed
fresh_formed t = and_both _ _ (eq-eqb (length fresh) places fresh_length) (all_from places _ (λ n h. rw fresh_idle (idle_right t n)))

pub all_idle_fresh : (s : List ℕ) → length s ≡ places → ((n : ℕ) → n < places → place s n ≡ idle) → s ≡ fresh
all_idle_fresh s e f = ext_get_or 0 s fresh (e ∙ sym fresh_length) (λ n h. f n (omega arith) ∙ sym (fresh_idle n))

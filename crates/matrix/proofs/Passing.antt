-- The pass down the tree, bit by bit: at node c the words of pre are right below c, and seen has what is below the children before c.
-- Assumes nothing.
use Prim.Native.Nat.{ℕ, ◌+◌, ◌≤◌, ◌<◌}
use mathlib.Core.Path.{◌≡◌, refl, ◌∙◌, sym}
use mathlib.Core.Bool.{Bool, true, false, ◌&&◌, ◌||◌, cond}
use mathlib.Core.List.{List}
use native.Mathlib.Decide.{ℕ_discrete}
use native.Mathlib.Numerals.{add-one}
use native.Mathlib.Omega.{arith}
use lib.Dec.{eqb}
use lib.ListN.{length, get_or, set, replicate}
use lib.Seq.{get_or-set_same, get_or-set_other}
use lib.Bits.{bit_or}
use borrow.Author.Tests.{ne_eqb, lt-ltb}
use Rattle.rules.specs.Bounded.{some_below}
use Rattle.rules.specs.Table.{Tree, is_task, is_child}
use Rattle.rules.specs.Accepted.{Rooted}
use Rattle.rules.specs.Preemption.{at_or_below}
use Rattle.rules.specs.Locks.{in_set}
use Rattle.rules.proofs.Nodes.{task_at}
use Rattle.matrix.specs.Words.{may_preempt_at, SteppedDown, Preempted}
use Rattle.rows.proofs.Bits.{has_or, has_zero}
use Rattle.matrix.proofs.Stores.{added_at, no_words}
use Rattle.matrix.proofs.Preempting.{at_root, down}

-- Bit j tells what task x is below.
abbrev Tells : Tree → List ℕ → ℕ → ℕ → Type 0
Tells t sub j x = (c : ℕ) → c < t.nodes → in_set j (get_or sub c 0) ≡ at_or_below t x c

pub record PreBelow (t : Tree) (sub : List ℕ) (n : ℕ) (pre : List ℕ) : Type 0 where
  pub bits : (j x : ℕ) → j < 64 → is_task t x ≡ true → Tells t sub j x → (c : ℕ) → c < n → in_set j (get_or pre c 0) ≡ may_preempt_at t x c

pub record SeenBelow (t : Tree) (sub : List ℕ) (n : ℕ) (seen : List ℕ) : Type 0 where
  pub bits : (j x : ℕ) → j < 64 → is_task t x ≡ true → Tells t sub j x → (q : ℕ)
      → in_set j (get_or seen q 0) ≡ some_below n (λ d. is_child t q d && at_or_below t x d)

module _ (t : Tree) (ok : Rooted t) (sub : List ℕ) where
  pub pre_first : (pre : List ℕ) → pre ≡ replicate 128 0 → PreBelow t sub 1 pre
  pre_first pre e =
      record {
        bits = λ j x l tx f c h.
            let z : c ≡ 0 = omega arith in
            rw (e, z) (has_zero j ∙ sym (at_root t ok x (task_at t x tx).0));
      }

  pub seen_first : SeenBelow t sub 1 (replicate 128 0)
  unfolding some_below is_child
  seen_first = record { bits = λ j x l tx f q. rw (lt-ltb 0 t.nodes ok.some) (no_words 128 q j) }

  seen_bit : (c p : ℕ) (seen : List ℕ) → 0 < c → c < t.nodes → p ≡ t.parent c → p < length seen → SeenBelow t sub c seen
      → (j x : ℕ) → j < 64 → is_task t x ≡ true → Tells t sub j x → (q : ℕ)
      → in_set j (get_or (set seen p (bit_or (get_or seen p 0) (get_or sub c 0))) q 0) ≡ some_below (c + 1) (λ d. is_child t q d && at_or_below t x d)
  unfolding some_below is_child
  seen_bit c p seen z h e b g j x l tx f q =
      rw (added_at seen p (get_or sub c 0) q b, add-one c, lt-ltb c t.nodes h, ne_eqb c 0 (omega arith), ← e) (side (eqb p q))
    where
      or_false : (a : Bool) → a ≡ (a || false)
      or_false true = refl
      or_false false = refl

      side : (b : Bool) → in_set j (cond b (bit_or (get_or seen q 0) (get_or sub c 0)) (get_or seen q 0))
          ≡ (some_below c (λ d. is_child t q d && at_or_below t x d) || (b && at_or_below t x c))
      side true = has_or j (get_or seen q 0) (get_or sub c 0) ∙ rw (g.bits j x l tx f q, f c h)
      side false = g.bits j x l tx f q ∙ or_false (some_below c (λ d. is_child t q d && at_or_below t x d))

  pub seen_next : {c p : ℕ} {seen : List ℕ} → 0 < c → c < t.nodes → p ≡ t.parent c → p < length seen → SeenBelow t sub c seen
      → SeenBelow t sub (c + 1) (set seen p (bit_or (get_or seen p 0) (get_or sub c 0)))
  seen_next {c} {p} {seen} z h e b g = record { bits = seen_bit c p seen z h e b g }

  pre_bit : (c p k v : ℕ) (pre seen : List ℕ) → 0 < c → c < t.nodes → p ≡ t.parent c → k ≡ t.kind p → c < length pre
      → SteppedDown k (get_or pre p 0) (get_or seen p 0) (get_or sub p 0) (get_or sub c 0) v
      → PreBelow t sub c pre → SeenBelow t sub c seen
      → (j x : ℕ) → j < 64 → is_task t x ≡ true → Tells t sub j x → (d : ℕ) → d < c + 1 → in_set j (get_or (set pre c v) d 0) ≡ may_preempt_at t x d
  pre_bit c p k v pre seen z h e q b s f g j x l tx w d i = side (ℕ_discrete d c)
    where
      low : p < c
      low = rw e (ok.lower c h (omega arith))

      here : in_set j v ≡ may_preempt_at t x c
      here =
          s.bits j l
          ∙ rw (f.bits j x l tx w p low, g.bits j x l tx w p, w p (omega (arith, low)), w c h, q, e) (sym (down t ok x tx c h (omega arith)))

      side : Dec (d ≡ c) → in_set j (get_or (set pre c v) d 0) ≡ may_preempt_at t x d
      side (yes y) = rw (y, get_or-set_same pre c v 0 b) here
      side (no y) = rw (get_or-set_other pre c d v 0 y) (f.bits j x l tx w d (omega arith))

  pub pre_next : {c p k v : ℕ} {pre seen : List ℕ} → 0 < c → c < t.nodes → p ≡ t.parent c → k ≡ t.kind p → c < length pre
      → SteppedDown k (get_or pre p 0) (get_or seen p 0) (get_or sub p 0) (get_or sub c 0) v
      → PreBelow t sub c pre → SeenBelow t sub c seen → PreBelow t sub (c + 1) (set pre c v)
  pre_next {c} {p} {k} {v} {pre} {seen} z h e q b s f g = record { bits = pre_bit c p k v pre seen z h e q b s f g }

  pub pre_all : {n : ℕ} {pre : List ℕ} → t.nodes ≤ n → PreBelow t sub n pre → Preempted t sub pre
  pre_all h f = record { bits = λ j x l tx w c i. f.bits j x l tx w c (omega arith) }

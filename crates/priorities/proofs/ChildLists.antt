-- A child list, turn by turn: no child of p stands at or before p, and each later node is visited if it is a child.
-- Assumes nothing.
use Prim.Native.Nat.{ℕ, zero, suc, ◌+◌, ◌≤◌}
use mathlib.Core.Path.{◌≡◌, refl, sym, ◌∙◌}
use mathlib.Core.Logic.{◌⊎◌, inl, inr}
use mathlib.Core.Bool.{Bool, true, false, cond, ◌||◌}
use mathlib.Core.List.{List}
use lib.ListN.{length}
use native.Mathlib.Numerals.{add-one}
use native.Mathlib.Omega.{arith}
use Rattle.rules.specs.Bounded.{some_below}
use Rattle.rules.specs.Table.{Tree, is_child}
use Rattle.rules.specs.Accepted.{Rooted}
use Rattle.rules.specs.Priorities.{Walk, children}
use Rattle.rules.proofs.Bools.{bool, or_right}
use Rattle.rules.proofs.Climbs.{child_lower}
use Rattle.priorities.specs.Numbering.{Shows}

or_false : (a : Bool) → (a || false) ≡ a
or_false true = refl
or_false false = refl

module _ (t : Tree) (ok : Rooted t) (p : ℕ) where
  pub no_child : (c : ℕ) → c ≤ p → is_child t p c ≡ false
  no_child c l = side (bool (is_child t p c))
    where
      side : (is_child t p c ≡ true) ⊎ (is_child t p c ≡ false) → is_child t p c ≡ false
      side (inl e) = absurd (omega (arith, child_lower t ok e))
      side (inr e) = e

  children_none : (g : ℕ → Walk → Walk) (w : Walk) (k : ℕ) → k ≤ p + 1 → children t p k g w ≡ w
  unfolding children
  children_none g w zero l = refl
  children_none g w (suc k) l = rw (no_child k (omega arith)) (children_none g w k (omega arith))

  some_none : (k : ℕ) → k ≤ p + 1 → some_below k (is_child t p) ≡ false
  unfolding some_below
  some_none zero l = refl
  some_none (suc k) l = rw (no_child k (omega arith), some_none k (omega arith))

module _ (t : Tree) (p j : ℕ) where
  children_child : (g : ℕ → Walk → Walk) (w : Walk) → is_child t p j ≡ true → children t p (j + 1) g w ≡ g j (children t p j g w)
  unfolding children
  children_child g w e = rw (add-one j, e)

  children_other : (g : ℕ → Walk → Walk) (w : Walk) → is_child t p j ≡ false → children t p (j + 1) g w ≡ children t p j g w
  unfolding children
  children_other g w e = rw (add-one j, e)

-- The walk shown has visited the children of p below j, each by `g`, which may look at the walk with which the list began and at the fuel;
-- the counter is `a j`.
pub record Listed
    (t : Tree) (p : ℕ) (g : ℕ → Walk → ℕ → Walk → Walk) (a : ℕ → ℕ) (old : List ℕ) (c j : ℕ) (new : List ℕ) (r : ℕ) : Type 0 where
  pub size : length new ≡ length old
  pub counter : r ≡ a j
  pub walked : (f : ℕ) (rest : List ℕ) (w : Walk) → t.nodes ≤ p + 1 + f → Shows t rest old c w
      → Shows t rest new r (children t p j (g f w) w)

module _ (t : Tree) (p : ℕ) (g : ℕ → Walk → ℕ → Walk → Walk) (a : ℕ → ℕ) (old : List ℕ) (c : ℕ) where
  pub listed_none : Rooted t → c ≡ a (p + 1) → Listed t p g a old c (p + 1) old c
  listed_none ok e =
      record { size = refl; counter = e; walked = λ f rest w l s. rw (children_none t ok p (g f w) w (p + 1) (omega arith)) s }

  module _ (j : ℕ) (new : List ℕ) (r : ℕ) (i : Listed t p g a old c j new r) where
    pub listed_child : (last : List ℕ) (q : ℕ) → is_child t p j ≡ true → length last ≡ length new → q ≡ a (j + 1)
        → ((f : ℕ) (rest : List ℕ) (w v : Walk) → t.nodes ≤ p + 1 + f → Shows t rest old c w → Shows t rest new r v
        → Shows t rest last q (g f w j v))
        → Listed t p g a old c (j + 1) last q
    listed_child last q e z d h =
        record {
          size = z ∙ i.size;
          counter = d;
          walked = λ f rest w l s.
              rw (children_child t p j (g f w) w e) (h f rest w (children t p j (g f w) w) l s (i.walked f rest w l s));
        }

    pub listed_other : is_child t p j ≡ false → a (j + 1) ≡ a j → Listed t p g a old c (j + 1) new r
    listed_other e d =
        record {
          size = i.size;
          counter = i.counter ∙ sym d;
          walked = λ f rest w l s. rw (children_other t p j (g f w) w e) (i.walked f rest w l s);
        }

-- How far the counter moves on at a FIFO: once, if there is a child below j.
unfoldable pub once : Tree → ℕ → ℕ → ℕ
once t p j = cond (some_below j (is_child t p)) 1 0

module _ (t : Tree) (p : ℕ) where
  pub once_none : Rooted t → once t p (p + 1) ≡ 0
  unfolding once
  once_none ok = rw (some_none t ok p (p + 1) (omega arith))

  pub once_child : (j : ℕ) → is_child t p j ≡ true → once t p (j + 1) ≡ 1
  unfolding once some_below
  once_child j e = rw (add-one j, or_right (some_below j (is_child t p)) (is_child t p j) e)

  pub once_other : (j : ℕ) → is_child t p j ≡ false → once t p (j + 1) ≡ once t p j
  unfolding once some_below
  once_other j e = rw (add-one j, e, or_false (some_below j (is_child t p)))

-- A climb goes from a node to its parent while that has a smaller number. So a node's own number is steps enough, and steps beyond it change
-- nothing: said once, of any climb F, which takes the steps that are left and the node.
-- Assumes nothing.
use Prim.Native.Nat.{ℕ, zero, suc, ◌≤◌, ◌<◌}
use mathlib.Core.Path.{◌≡◌, refl, sym, ◌∙◌}
use native.Mathlib.Decide.{dec_lt}
use native.Mathlib.Omega.{arith}
use Rattle.rules.specs.Table.{Tree}

module _ {A : Type 0} (t : Tree) (F : ℕ → ℕ → A)
    -- Where the parent has no smaller number there is no step to take.
    (top : (f n : ℕ) → n ≤ t.parent n → F (suc f) n ≡ F zero n)
    -- A step leaves the rest of the climb.
    (step : (f g n : ℕ) → t.parent n < n → F f (t.parent n) ≡ F g (t.parent n) → F (suc f) n ≡ F (suc g) n) where
  enough : (f g n : ℕ) → n ≤ f → n ≤ g → F f n ≡ F g n
  enough zero zero n p q = refl
  enough zero (suc g) n p q = sym (top g n (omega arith))
  enough (suc f) zero n p q = top f n (omega arith)
  enough (suc f) (suc g) n p q = side (dec_lt (t.parent n) n) (enough f g (t.parent n))
    where
      side : Dec (t.parent n < n) → (t.parent n ≤ f → t.parent n ≤ g → F f (t.parent n) ≡ F g (t.parent n)) → F (suc f) n ≡ F (suc g) n
      side (yes h) e = step f g n h (e (omega arith) (omega arith))
      side (no h) e = top f n (omega arith) ∙ sym (top g n (omega arith))

  -- The whole climb from n, with one step more.
  pub one_more : (n : ℕ) → F n n ≡ F (suc n) n
  one_more n = enough n (suc n) n (omega arith) (omega arith)

  -- What is left after a step is the whole climb from the parent.
  pub rest : (n : ℕ) → t.parent n < n → F n (t.parent n) ≡ F (t.parent n) (t.parent n)
  rest n h = enough n (t.parent n) (t.parent n) (omega arith) (omega arith)

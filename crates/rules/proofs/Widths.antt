-- The numbers of the walk in closed form. A node's width is how far the counter moves on at it, its first number is the counter as the walk
-- comes to it: that of its parent, and the widths of its higher siblings. A parent is smaller than its children, so the number of nodes is
-- fuel enough, and both have equations without fuel.
-- Assumes nothing.
use Prim.Native.Nat.{ℕ, zero, suc, ◌+◌, ◌≤◌, ◌<◌, min}
use mathlib.Core.Path.{◌≡◌, ap, ◌∙◌}
use mathlib.Core.Logic.{◌≢◌, ◌⊎◌, inl, inr}
use mathlib.Core.Bool.{true, false, cond}
use native.Mathlib.Decide.{ℕ_discrete}
use native.Mathlib.Omega.{arith}
use lib.Dec.{eqb}
use borrow.Author.Tests.{eq-eqb, ne_eqb}
use Rattle.rules.specs.Table.{Tree, task, non_preemptive, fifo, is_child}
use Rattle.rules.specs.Accepted.{Rooted}
use Rattle.rules.proofs.Bools.{bool}
use Rattle.rules.proofs.Nodes.{child_at}
use Rattle.rules.proofs.Climbs.{child_lower}
use Rattle.rules.proofs.Sums.{sum_below, sum_cong}

-- How far the counter moves on at a node of kind k whose children move it on by w: once at a task, at most once at a FIFO.
unfoldable pub span : ℕ → ℕ → ℕ
span k w = cond (eqb k task) 1 (cond (eqb k fifo) (min 1 w) w)

-- How far it moves on at node n, and at most f levels below it.
unfoldable pub width_within : ℕ → Tree → ℕ → ℕ
width_within zero t n = 0
width_within (suc f) t n = span (t.kind n) (sum_below t.nodes (λ c. cond (is_child t n c) (width_within f t c) 0))

unfoldable pub width : Tree → ℕ → ℕ
width t n = width_within t.nodes t n

-- What node c adds, as a child of p.
unfoldable pub share : Tree → ℕ → ℕ → ℕ
share t p c = cond (is_child t p c) (width t c) 0

-- How far the counter has moved on at the children of p before c. Under a FIFO all share one number.
unfoldable pub before : Tree → ℕ → ℕ → ℕ
before t p c = cond (eqb (t.kind p) fifo) 0 (sum_below c (share t p))

-- The counter as the walk comes to node n, from at most f levels above it.
unfoldable pub first_within : ℕ → Tree → ℕ → ℕ
first_within zero t n = 0
first_within (suc f) t n = cond (eqb n 0) 0 (first_within f t (t.parent n) + before t (t.parent n) n)

unfoldable pub first : Tree → ℕ → ℕ
first t n = first_within t.nodes t n

-- The threshold of task n: the first number of all under kind 2, else its own.
unfoldable pub ceiling : Tree → ℕ → ℕ
ceiling t n = cond (eqb (t.kind (t.parent n)) non_preemptive) (first t (t.parent n)) (first t n)

module _ (t : Tree) (p c : ℕ) where
  pub share_child : is_child t p c ≡ true → share t p c ≡ width t c
  unfolding share
  share_child e = rw e

  pub share_other : is_child t p c ≡ false → share t p c ≡ 0
  unfolding share
  share_other e = rw e

  pub ceiling_shared : t.parent c ≡ p → t.kind p ≡ non_preemptive → ceiling t c ≡ first t p
  unfolding ceiling
  ceiling_shared e k = rw (e, k)

  pub ceiling_own : t.parent c ≡ p → t.kind p ≢ non_preemptive → ceiling t c ≡ first t c
  unfolding ceiling
  ceiling_own e k = rw (e, ne_eqb (t.kind p) non_preemptive k)

module _ (t : Tree) (ok : Rooted t) where
  width_fuel : (f g n : ℕ) → n < t.nodes → t.nodes ≤ n + f → t.nodes ≤ n + g → width_within f t n ≡ width_within g t n
  unfolding width_within
  width_fuel zero g n h a b = absurd (omega arith)
  width_fuel (suc f) zero n h a b = absurd (omega arith)
  width_fuel (suc f) (suc g) n h a b =
      ap (span (t.kind n)) (sum_cong t.nodes _ _ (λ c l. part c l (bool (is_child t n c)) (width_fuel f g c l)))
    where
      part : (c : ℕ) → c < t.nodes → (is_child t n c ≡ true) ⊎ (is_child t n c ≡ false)
          → (t.nodes ≤ c + f → t.nodes ≤ c + g → width_within f t c ≡ width_within g t c)
          → cond (is_child t n c) (width_within f t c) 0 ≡ cond (is_child t n c) (width_within g t c) 0
      part c l (inl e) w = let k = child_lower t ok e in rw e (w (omega arith) (omega arith))
      part c l (inr e) w = rw e

  width_is : (n : ℕ) → n < t.nodes → width t n ≡ span (t.kind n) (sum_below t.nodes (share t n))
  unfolding width share width_within
  width_is n h = width_fuel t.nodes (suc t.nodes) n h (omega arith) (omega arith)

  first_fuel : (f g n : ℕ) → n < t.nodes → n < f → n < g → first_within f t n ≡ first_within g t n
  unfolding first_within
  first_fuel zero g n h a b = absurd (omega arith)
  first_fuel (suc f) zero n h a b = absurd (omega arith)
  first_fuel (suc f) (suc g) n h a b = side (ℕ_discrete n 0) (first_fuel f g (t.parent n))
    where
      side : Dec (n ≡ 0)
          → (t.parent n < t.nodes → t.parent n < f → t.parent n < g → first_within f t (t.parent n) ≡ first_within g t (t.parent n))
          → cond (eqb n 0) 0 (first_within f t (t.parent n) + before t (t.parent n) n)
          ≡ cond (eqb n 0) 0 (first_within g t (t.parent n) + before t (t.parent n) n)
      side (yes z) w = rw (eq-eqb n 0 z)
      side (no z) w = let l = ok.lower n h z in rw (w (omega arith) (omega arith) (omega arith))

  pub first_root : first t 0 ≡ 0
  unfolding first first_within
  first_root = first_fuel t.nodes (suc t.nodes) 0 ok.some ok.some (omega arith)

  first_child : (p c : ℕ) → is_child t p c ≡ true → first t c ≡ first t p + before t p c
  unfolding first first_within
  first_child p c e =
      let k = child_at t p c e in
      first_fuel t.nodes (suc t.nodes) c k.0 k.0 (omega arith) ∙ rw (ne_eqb c 0 k.1, k.2)

  -- The equations by kind.
  pub width_task : (n : ℕ) → n < t.nodes → t.kind n ≡ task → width t n ≡ 1
  unfolding span
  width_task n h k = width_is n h ∙ rw k

  pub width_fifo : (n : ℕ) → n < t.nodes → t.kind n ≡ fifo → width t n ≡ min 1 (sum_below t.nodes (share t n))
  unfolding span
  width_fifo n h k = width_is n h ∙ rw k

  pub width_row : (n : ℕ) → n < t.nodes → t.kind n ≢ task → t.kind n ≢ fifo → width t n ≡ sum_below t.nodes (share t n)
  unfolding span
  width_row n h z k = width_is n h ∙ rw (ne_eqb (t.kind n) task z, ne_eqb (t.kind n) fifo k)

  pub first_fifo : (p c : ℕ) → is_child t p c ≡ true → t.kind p ≡ fifo → first t c ≡ first t p
  unfolding before
  first_fifo p c e k = first_child p c e ∙ rw k (omega arith)

  pub first_row : (p c : ℕ) → is_child t p c ≡ true → t.kind p ≢ fifo → first t c ≡ first t p + sum_below c (share t p)
  unfolding before
  first_row p c e k = first_child p c e ∙ rw (ne_eqb (t.kind p) fifo k)

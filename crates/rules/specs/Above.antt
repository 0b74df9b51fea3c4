-- What stands above what in the tree, and what the nearest common scheduler of two tasks is, as facts with no climb in them: to be held
-- against the climbs of `Preemption`.
-- Assumes nothing.
use Rattle.std.specs.Prelude.{ℕ, ◌<◌, ◌≡◌, ◌≢◌, true}
use Rattle.rules.specs.Table.{Tree, is_scheduler, is_child}

-- a is n, or a is above n's parent or equal to it. The root has no parent.
pub data Above (t : Tree) (a : ℕ) : ℕ → Type 0 where
  here : Above t a a
  there : {n : ℕ} → n < t.nodes → n ≢ 0 → Above t a (t.parent n) → Above t a n

-- p is the nearest common scheduler of x and u: an ancestor of both, to which every common ancestor is equal or above. Its children a and c
-- are above or equal to x and u, and differ.
pub record Nearest (t : Tree) (x u p a c : ℕ) : Type 0 where
  pub scheduler : is_scheduler t p ≡ true
  pub above_x : Above t p x
  pub above_u : Above t p u
  pub not_x : p ≢ x
  pub not_u : p ≢ u
  pub lowest : (q : ℕ) → Above t q x → Above t q u → Above t q p
  pub child_x : is_child t p a ≡ true
  pub child_u : is_child t p c ≡ true
  pub holds_x : Above t a x
  pub holds_u : Above t c u
  pub differ : a ≢ c

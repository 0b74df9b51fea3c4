-- What is at or below different children of a scheduler has it as its nearest common one, and that scheduler decides between the two children:
-- a common ancestor that is not above the scheduler would be at or below one child, and above what only the other holds.
-- Assumes nothing.
use Prim.Native.Nat.{ℕ}
use mathlib.Core.Path.{◌≡◌}
use mathlib.Core.Logic.{◌≢◌, ◌⊎◌, inl, inr}
use mathlib.Core.Bool.{true}
use native.Mathlib.Omega.{arith}
use borrow.Author.Tests.{ne_eqb}
use Rattle.rules.specs.Table.{Tree, is_task, is_child}
use Rattle.rules.specs.Accepted.{Rooted}
use Rattle.rules.specs.Preemption.{nearest_common, child_above, allows, may_preempt}
use Rattle.rules.specs.Above.{Above, Nearest}
use Rattle.rules.proofs.Nodes.{child_at}
use Rattle.rules.proofs.Climbs.{above_in, above_trans, in_line, above_child, child_up, above_le, child_lower, parent_scheduler, one_child}
use Rattle.rules.proofs.Nearest.{apart, nearest_unique}

module _
    (t : Tree) (ok : Rooted t) (p a c x u : ℕ) (ka : is_child t p a ≡ true) (kc : is_child t p c ≡ true) (d : a ≢ c)
    (va : Above t a x) (vc : Above t c u)
  where
    not_over_x : Above t c x → ⊥
    not_over_x v = d (one_child t ok p ka kc va v)

    not_over_u : Above t a u → ⊥
    not_over_u v = d (one_child t ok p ka kc v vc)

    over_both : (q : ℕ) → Above t q x → Above t q u → Above t q p
    over_both q v w = side (in_line t v va)
      where
        higher : (q ≡ a) ⊎ Above t q p → Above t q p
        higher (inl e) = absurd (not_over_u (rw e at w))
        higher (inr y) = y

        side : Above t q a ⊎ Above t a q → Above t q p
        side (inl y) = higher (above_child t p ka y)
        side (inr y) = absurd (not_over_u (above_trans t y w))

    pub nearest_from : Nearest t x u p a c
    nearest_from =
        record {
          scheduler = parent_scheduler t ok p a ka;
          above_x = child_up t ka va;
          above_u = child_up t kc vc;
          not_x = λ e. omega (arith, above_le t ok va, child_lower t ok ka);
          not_u = λ e. omega (arith, above_le t ok vc, child_lower t ok kc);
          lowest = over_both;
          child_x = ka;
          child_u = kc;
          holds_x = va;
          holds_u = vc;
          differ = d;
        }

    found : Nearest t x u (nearest_common t x u) (child_above t (nearest_common t x u) x) (child_above t (nearest_common t x u) u)
    found =
        apart t ok x u (above_in t (child_at t p a ka).0 va) (above_in t (child_at t p c kc).0 vc)
        (λ v. not_over_x (above_trans t vc v)) (λ v. not_over_u (above_trans t va v))

    pub nearest_is : nearest_common t x u ≡ p
    nearest_is = nearest_unique t ok found nearest_from

    found_at : Nearest t x u p (child_above t p x) (child_above t p u)
    found_at = rw nearest_is at found

    pub child_of_x : child_above t p x ≡ a
    child_of_x = one_child t ok p found_at.child_x ka found_at.holds_x va

    pub child_of_u : child_above t p u ≡ c
    child_of_u = one_child t ok p found_at.child_u kc found_at.holds_u vc

    -- So the scheduler decides by its two children.
    pub preempts_by : is_task t x ≡ true → is_task t u ≡ true → may_preempt t x u ≡ allows t p a c
    unfolding may_preempt
    preempts_by tx tu =
        let n : x ≢ u = (λ e. not_over_u (rw e at va)) in
        rw (tx, tu, ne_eqb x u n, nearest_is, child_of_x, child_of_u)

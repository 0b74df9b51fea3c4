-- The way down: whether a task may preempt what is at or below a node follows from the same of its parent. A task that is not below the
-- parent preempts both or neither, by the same scheduler; one that is below the parent, but not below the node, is below another child of the
-- parent, which decides.
-- Assumes nothing.
use Prim.Native.Nat.{ℕ, zero, suc, ◌<◌}
use mathlib.Core.Path.{◌≡◌, refl, ◌∙◌, sym}
use mathlib.Core.Logic.{◌≢◌, ◌⊎◌, inl, inr}
use mathlib.Core.Bool.{Bool, true, false, ◌&&◌, ◌||◌, cond, false≢true}
use native.Mathlib.Decide.{ℕ_discrete}
use native.Mathlib.Omega.{arith}
use lib.Dec.{eqb, ltb}
use borrow.Author.Tests.{eq-eqb, ne_eqb, eqb-true, lt-ltb, ltb-true}
use Rattle.rules.specs.Bounded.{some_below}
use Rattle.rules.specs.Table.{Tree, preemptive, time_sliced, is_task, is_child}
use Rattle.rules.specs.Accepted.{Rooted}
use Rattle.rules.specs.Preemption.{at_or_below, nearest_common, child_above, allows, may_preempt}
use Rattle.rules.specs.Above.{Above, here, there, Nearest}
use Rattle.rules.proofs.Bools.{bool, and_left, and_right, and_both, or_left, or_right}
use Rattle.rules.proofs.Bounded.{some_at}
use Rattle.rules.proofs.Nodes.{task_at, child_from}
use Rattle.rules.proofs.Climbs.{above_trans, below_child, child_up, one_child, task_lowest, root_above, below_above}
use Rattle.rules.proofs.Nearest.{apart}
use Rattle.rules.proofs.NearestFromChildren.{nearest_is, child_of_x, child_of_u}
use Rattle.matrix.specs.Words.{may_preempt_at, step_down}
use Rattle.matrix.proofs.Stores.{same_test}

-- Some number below n passes.
pub some_from : (n : ℕ) (p : ℕ → Bool) (k : ℕ) → k < n → p k ≡ true → some_below n p ≡ true
unfolding some_below
some_from zero p k h e = absurd (omega arith)
some_from (suc n) p k h e = side (ℕ_discrete k n) (some_from n p k)
  where
    side : Dec (k ≡ n) → (k < n → p k ≡ true → some_below n p ≡ true) → (some_below n p || p n) ≡ true
    side (yes q) f = or_right (some_below n p) (p n) (rw (← q) e)
    side (no q) f = or_left (some_below n p) (p n) (f (omega arith) e)

step_own : (k : ℕ) → step_down k false false true true ≡ false
unfolding step_down
step_own k = side (eqb k preemptive) (eqb k time_sliced)
  where
    side : (a b : Bool) → cond a false (cond b false false) ≡ false
    side true b = refl
    side false true = refl
    side false false = refl

step_here : (k : ℕ) (h : Bool) → step_down k false h true false ≡ (eqb k time_sliced || (eqb k preemptive && h))
unfolding step_down
step_here k h = side (eqb k preemptive) (eqb k time_sliced) refl refl
  where
    side : (a b : Bool) → eqb k preemptive ≡ a → eqb k time_sliced ≡ b → cond a h (cond b true false) ≡ (b || (a && h))
    side true true e f = absurd (omega (arith, eqb-true k 1 e, eqb-true k 4 f))
    side true false e f = refl
    side false true e f = refl
    side false false e f = refl

step_past : (k : ℕ) (q : Bool) → step_down k q false false false ≡ q
unfolding step_down
step_past k q = side (eqb k preemptive) (eqb k time_sliced) q
  where
    side : (a b q : Bool) → cond a (q || false) (cond b (q || false) q) ≡ q
    side true b true = refl
    side true b false = refl
    side false true true = refl
    side false true false = refl
    side false false q = refl

module _ (t : Tree) (ok : Rooted t) where
  apart_tests : (x c : ℕ) → x < t.nodes → (Above t c x → ⊥) → at_or_below t x c ≡ false
  apart_tests x c h d = side (bool (at_or_below t x c))
    where
      side : (at_or_below t x c ≡ true) ⊎ (at_or_below t x c ≡ false) → at_or_below t x c ≡ false
      side (inl e) = absurd (d ((below_above t ok c x h).0 e))
      side (inr e) = e

  -- The scheduler p decides between its children a, which x is below, and c, which u is at or below.
  by_children : (p a c x u : ℕ) → x < t.nodes → is_child t p a ≡ true → is_child t p c ≡ true → a ≢ c → Above t a x → Above t c u
      → may_preempt_at t x u ≡ allows t p a c
  unfolding may_preempt_at
  by_children p a c x u h ka kc d va vc =
      rw (
        apart_tests x u h (λ v. d (one_child t ok p ka kc va (above_trans t vc v))),
        nearest_is t ok p a c x u ka kc d va vc,
        child_of_x t ok p a c x u ka kc d va vc,
        child_of_u t ok p a c x u ka kc d va vc,
      )

  below_none : (x c : ℕ) → at_or_below t x c ≡ true → may_preempt_at t x c ≡ false
  unfolding may_preempt_at
  below_none x c e = rw e

  pub at_root : (x : ℕ) → x < t.nodes → may_preempt_at t x 0 ≡ false
  at_root x h = below_none x 0 ((below_above t ok 0 x h).1 (root_above t ok h))

  pub at_itself : (x u : ℕ) → x ≡ u → is_task t x ≡ true → is_task t u ≡ true → false ≡ may_preempt t x u
  unfolding may_preempt
  at_itself x u e tx tu = rw (tx, tu, eq-eqb x u e)

  at_other : (x u : ℕ) → x ≢ u → is_task t x ≡ true → is_task t u ≡ true → may_preempt_at t x u ≡ may_preempt t x u
  unfolding may_preempt may_preempt_at
  at_other x u d tx tu =
      let no = apart_tests x u (task_at t x tx).0 (λ v. d (sym (task_lowest t ok (task_at t u tu).1 v))) in
      rw (tx, tu, ne_eqb x u d, no)

  -- Of two tasks it is what the rules say.
  pub at_task : (x u : ℕ) → is_task t x ≡ true → is_task t u ≡ true → may_preempt_at t x u ≡ may_preempt t x u
  at_task x u tx tu = side (ℕ_discrete x u)
    where
      side : Dec (x ≡ u) → may_preempt_at t x u ≡ may_preempt t x u
      side (yes e) = below_none x u ((below_above t ok u x (task_at t x tx).0).1 (rw e here)) ∙ at_itself x u e tx tu
      side (no e) = at_other x u e tx tu

  module _ (x : ℕ) (tx : is_task t x ≡ true) (c : ℕ) (h : c < t.nodes) (z : c ≢ 0) where
    hx : x < t.nodes
    hx = (task_at t x tx).0

    child : is_child t (t.parent c) c ≡ true
    child = child_from t (t.parent c) c h z refl

    low : t.parent c < c
    low = ok.lower c h z

    -- x is below a child of the parent that ranks higher than c.
    abbrev higher : Bool
    higher = some_below c (λ d. is_child t (t.parent c) d && at_or_below t x d)

    higher_at : higher ≡ true → (d : ℕ) × (d < c) × (is_child t (t.parent c) d ≡ true) × Above t d x
    higher_at e =
        let r = some_at c (λ d. is_child t (t.parent c) d && at_or_below t x d) e in
        (r.0, r.1, and_left _ _ r.2, (below_above t ok r.0 x hx).0 (and_right (is_child t (t.parent c) r.0) _ r.2))

    higher_none : ((d : ℕ) → d < c → is_child t (t.parent c) d ≡ true → Above t d x → ⊥) → higher ≡ false
    higher_none f = side (bool higher)
      where
        side : (higher ≡ true) ⊎ (higher ≡ false) → higher ≡ false
        side (inl e) = let r = higher_at e in absurd (f r.0 r.1 r.2 r.3)
        side (inr e) = e

    parent_over : Above t c x → at_or_below t x (t.parent c) ≡ true
    parent_over u = (below_above t ok (t.parent c) x hx).1 (child_up t child u)

    own : at_or_below t x c ≡ true
        → may_preempt_at t x c ≡ step_down (t.kind (t.parent c)) (may_preempt_at t x (t.parent c)) higher (at_or_below t x (t.parent c)) true
    own e =
        let u = (below_above t ok c x hx).0 e in
        let no = higher_none (λ d l k v. omega (arith, one_child t ok (t.parent c) k child v u)) in
        rw (below_none x c e, below_none x (t.parent c) (parent_over u), no, parent_over u) (sym (step_own (t.kind (t.parent c))))

    -- x is below the parent, and not below c: it is below another child.
    sibling : (Above t c x → ⊥) → Above t (t.parent c) x → (a : ℕ) × (is_child t (t.parent c) a ≡ true) × (a ≢ c) × Above t a x
    sibling d u = side (below_child t u)
      where
        side : (x ≡ t.parent c) ⊎ ((a : ℕ) × (is_child t (t.parent c) a ≡ true) × Above t a x)
            → (a : ℕ) × (is_child t (t.parent c) a ≡ true) × (a ≢ c) × Above t a x
        side (inl e) = absurd (ok.inner c h z (rw (← e) (task_at t x tx).1))
        side (inr r) = (r.0, r.1, λ e. d (rw e at r.2), r.2)

    higher_is : (a : ℕ) → is_child t (t.parent c) a ≡ true → Above t a x → higher ≡ ltb a c
    higher_is a k v =
        same_test higher (ltb a c)
        (λ e. let r = higher_at e in lt-ltb a c (omega (arith, r.1, one_child t ok (t.parent c) k r.2 v r.3)))
        (λ e. some_from c (λ d. is_child t (t.parent c) d && at_or_below t x d) a (ltb-true a c e) (and_both _ _ k ((below_above t ok a x hx).1 v)))

    beside : at_or_below t x c ≡ false → at_or_below t x (t.parent c) ≡ true
        → may_preempt_at t x c ≡ step_down (t.kind (t.parent c)) (may_preempt_at t x (t.parent c)) higher true false
    unfolding allows
    beside e f =
        let no : Above t c x → ⊥ = (λ v. false≢true (sym e ∙ (below_above t ok c x hx).1 v)) in
        let r = sibling no ((below_above t ok (t.parent c) x hx).0 f) in
        by_children (t.parent c) r.0 c x c hx r.1 child r.2 r.3 here
        ∙ rw (below_none x (t.parent c) f, higher_is r.0 r.1 r.3) (sym (step_here (t.kind (t.parent c)) (ltb r.0 c)))

    far : at_or_below t x (t.parent c) ≡ false
        → may_preempt_at t x c ≡ step_down (t.kind (t.parent c)) (may_preempt_at t x (t.parent c)) higher false false
    far f =
        by_children q a b x c hx r.child_x r.child_u r.differ r.holds_x (above_trans t r.holds_u (there h z here))
        ∙ sym (by_children q a b x (t.parent c) hx r.child_x r.child_u r.differ r.holds_x r.holds_u)
        ∙ rw (higher_none (λ d l k v. no (child_up t k v))) (sym (step_past (t.kind (t.parent c)) (may_preempt_at t x (t.parent c))))
      where
        no : Above t (t.parent c) x → ⊥
        no v = false≢true (sym f ∙ (below_above t ok (t.parent c) x hx).1 v)

        q : ℕ
        q = nearest_common t x (t.parent c)

        a : ℕ
        a = child_above t q x

        b : ℕ
        b = child_above t q (t.parent c)

        r : Nearest t x (t.parent c) q a b
        r = apart t ok x (t.parent c) hx (omega (arith, low)) no (λ v. no (rw (task_lowest t ok (task_at t x tx).1 v) here))

    pub down : may_preempt_at t x c
        ≡ step_down (t.kind (t.parent c)) (may_preempt_at t x (t.parent c)) (some_below c (λ d. is_child t (t.parent c) d && at_or_below t x d))
        (at_or_below t x (t.parent c)) (at_or_below t x c)
    down = side (bool (at_or_below t x c)) (bool (at_or_below t x (t.parent c)))
      where
        side : (at_or_below t x c ≡ true) ⊎ (at_or_below t x c ≡ false) → (at_or_below t x (t.parent c) ≡ true) ⊎ (at_or_below t x (t.parent c) ≡ false)
            → may_preempt_at t x c
            ≡ step_down (t.kind (t.parent c)) (may_preempt_at t x (t.parent c)) higher (at_or_below t x (t.parent c)) (at_or_below t x c)
        side (inl e) f = rw (e) (own e)
        side (inr e) (inl f) = rw (e, f) (beside e f)
        side (inr e) (inr f) = rw (e, f) (far f)

-- What a granted step says and does: each of its tests as a fact, and back from the facts to the grant. A granted step changes one place, and
-- leaves a well-formed state.
-- Assumes nothing.
use Prim.Native.Nat.{ℕ, ◌<◌}
use mathlib.Core.Path.{◌≡◌, refl}
use mathlib.Core.Logic.{◌≢◌}
use mathlib.Core.Bool.{Bool, true, false}
use mathlib.Core.List.{List, ◌∷◌}
use native.Mathlib.Omega.{arith}
use lib.ListN.{set}
use borrow.Author.Tests.{ltb-true}
use Rattle.rules.specs.Table.{Table, is_task}
use Rattle.rules.specs.Accepted.{Accepted}
use Rattle.rules.specs.Machine.{places, place, place_right, well_formed, may_take, Step, Start, Open, Close, Finish, stepper, named, fits, free, next, Stepped, Granted, Denied, granting, step, after, run}
use Rattle.rules.proofs.States.{place_same, place_other, task_below, formed_length, idle_right, outside_right, inside_right, set_formed}

-- A step from s to r is granted exactly when its five tests pass and r is s with the next value at its task's place.
pub record Grant (t : Table) (s : List ℕ) (c : Step) (r : List ℕ) : Type 0 where
  pub formed : well_formed t s ≡ true
  pub names : named t c ≡ true
  pub fit : fits c (place s (stepper t c)) ≡ true
  pub takes : may_take t s (stepper t c) ≡ true
  pub clear : free t s c ≡ true
  pub result : r ≡ set s (stepper t c) (next c)

granting_passed : (b : Bool) (n : ℕ) (a : Stepped) (r : List ℕ) → granting b n a ≡ Granted r → (b ≡ true) × (a ≡ Granted r)
unfolding granting
granting_passed true n a r e = (refl, e)
granting_passed false n a r e = (cc, cc)

pub granted : (t : Table) (s : List ℕ) (c : Step) (r : List ℕ) → step t s c ≡ Granted r → Grant t s c r
unfolding step
granted t s c r e =
    let a = granting_passed _ _ _ _ e in
    let b = granting_passed _ _ _ _ a.1 in
    let d = granting_passed _ _ _ _ b.1 in
    let f = granting_passed _ _ _ _ d.1 in
    let g = granting_passed _ _ _ _ f.1 in
    record { formed = a.0; names = b.0; fit = d.0; takes = f.0; clear = g.0; result = cc }

pub grant : (t : Table) (s : List ℕ) (c : Step) (r : List ℕ) → Grant t s c r → step t s c ≡ Granted r
unfolding step granting
grant t s c r g = rw (g.formed, g.names, g.fit, g.takes, g.clear, g.result)

-- A run is granted exactly when its first step is, and then the run from there.
pub run_first : (t : Table) (s : List ℕ) (c : Step) (cs : List Step) (r : List ℕ) → run t s (c ∷ cs) ≡ Granted r
    → (s' : List ℕ) × (step t s c ≡ Granted s') × (run t s' cs ≡ Granted r)
unfolding run after
run_first t s c cs r e = side (step t s c) refl e
  where
    side : (a : Stepped) → step t s c ≡ a → after a (λ s'. run t s' cs) ≡ Granted r
        → (s' : List ℕ) × (step t s c ≡ Granted s') × (run t s' cs ≡ Granted r)
    side (Granted s') q e = (s', q, e)
    side (Denied n) q e = let z : ◌≡◌ {A = ℕ} 0 1 = cc in absurd (omega arith)

pub run_then : (t : Table) (s : List ℕ) (c : Step) (s' : List ℕ) (cs : List Step) (r : List ℕ) → step t s c ≡ Granted s'
    → run t s' cs ≡ Granted r → run t s (c ∷ cs) ≡ Granted r
unfolding run after
run_then t s c s' cs r e f = rw e f

-- Who steps in an accepted table is a task, and what then stands at its place may stand there.
module _ (t : Table) (ok : Accepted t) where
  stepper_task : (c : Step) → named t c ≡ true → is_task t.tree (stepper t c) ≡ true
  unfolding named stepper
  stepper_task (Start x) e = e
  stepper_task (Open i) e = ok.tasks i (ltb-true _ _ e)
  stepper_task (Close x) e = e
  stepper_task (Finish x) e = e

  next_right : (c : Step) → named t c ≡ true → place_right t (stepper t c) (next c) ≡ true
  unfolding named stepper next
  next_right (Start x) e = outside_right t x e
  next_right (Open i) e = inside_right t i (ltb-true _ _ e) (ok.tasks i (ltb-true _ _ e))
  next_right (Close x) e = outside_right t x e
  next_right (Finish x) e = idle_right t x

  -- What a granted step leaves: the next value at the stepper's place, all others as they were, and a well-formed state.
  module _ (s : List ℕ) (c : Step) (r : List ℕ) (g : Grant t s c r) where
    has_place : stepper t c < places
    has_place = omega (arith, task_below t (stepper t c) (stepper_task c g.names), ok.tree.few)

    pub step_same : place r (stepper t c) ≡ next c
    step_same = rw g.result (place_same s (stepper t c) (next c) (formed_length t s g.formed) has_place)

    pub step_other : (u : ℕ) → u ≢ stepper t c → place r u ≡ place s u
    step_other u q = rw g.result (place_other s (stepper t c) (next c) u q)

    pub step_formed : well_formed t r ≡ true
    step_formed = rw g.result (set_formed t s g.formed (stepper t c) (next c) has_place (next_right c g.names))

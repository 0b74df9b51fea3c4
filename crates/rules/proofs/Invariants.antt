-- The machine's two invariants, which every run from fresh keeps: the state is well formed, and the active tasks are in order. A clock counts
-- the steps; of two active tasks, the one that stepped later is over the other, since it could take the processor when it stepped.
-- Assumes nothing.
use Prim.Native.Nat.{ℕ, suc, ◌≤◌, ◌<◌}
use mathlib.Core.Path.{◌≡◌, sym, ◌∙◌}
use mathlib.Core.Logic.{◌≢◌}
use mathlib.Core.Bool.{true, cond}
use mathlib.Core.List.{List, [], ◌∷◌}
use native.Mathlib.Decide.{ℕ_discrete}
use native.Mathlib.Omega.{arith}
use lib.Dec.{eqb}
use borrow.Author.Tests.{eq-eqb, ne_eqb}
use Rattle.rules.specs.Table.{Table}
use Rattle.rules.specs.Accepted.{Accepted}
use Rattle.rules.specs.Machine.{place, idle, fresh, well_formed, Step, stepper, next, Granted, step, run}
use Rattle.rules.specs.Runs.{Reached}
use Rattle.rules.proofs.States.{fresh_idle, fresh_formed}
use Rattle.rules.proofs.Steps.{Grant, granted, run_first, step_same, step_other, step_formed}
use Rattle.rules.proofs.Over.{Over, step_over}

-- The active tasks are in order: each has stepped before now, and is over those that stepped no later.
pub record Ordered (t : Table) (s : List ℕ) : Type 0 where
  pub now : ℕ
  pub time : ℕ → ℕ
  pub before : (u : ℕ) → place s u ≢ idle → time u < now
  pub over : (u x : ℕ) → u ≢ x → place s u ≢ idle → place s x ≢ idle → time u ≤ time x → Over t x (place s x) u (place s u)

-- Both invariants.
pub record Kept (t : Table) (s : List ℕ) : Type 0 where
  pub formed : well_formed t s ≡ true
  pub ordered : Ordered t s

fresh_kept : (t : Table) → Kept t fresh
fresh_kept t =
    record {
      formed = fresh_formed t;
      ordered =
          record {
            now = 0;
            time = λ u. 0;
            before = λ u z. absurd (z (fresh_idle u));
            over = λ u x q z. absurd (z (fresh_idle u));
          };
    }

module _ (t : Table) (ok : Accepted t) where
  -- The task that steps is over the others from now on; among the others nothing has changed.
  step_ordered : (s : List ℕ) (c : Step) (r : List ℕ) → Grant t s c r → Ordered t s → Ordered t r
  step_ordered s c r g o =
      record {
        now = suc o.now;
        time = time;
        before = λ u z. before u z (ℕ_discrete u x);
        over = λ u v n zu zv l. over u v n zu zv l (ℕ_discrete u x) (ℕ_discrete v x);
      }
    where
      x : ℕ
      x = stepper t c

      time : ℕ → ℕ
      time u = cond (eqb u x) o.now (o.time u)

      time_x : (u : ℕ) → u ≡ x → time u ≡ o.now
      time_x u p = rw (eq-eqb u x p)

      time_other : (u : ℕ) → u ≢ x → time u ≡ o.time u
      time_other u p = rw (ne_eqb u x p)

      place_x : place r x ≡ next c
      place_x = step_same t ok s c r g

      place_other : (u : ℕ) → u ≢ x → place r u ≡ place s u
      place_other = step_other t ok s c r g

      was : (u : ℕ) → u ≢ x → place r u ≢ idle → place s u ≢ idle
      was u p z e = z (place_other u p ∙ e)

      before : (u : ℕ) → place r u ≢ idle → Dec (u ≡ x) → time u < suc o.now
      before u z (yes p) = omega (arith, time_x u p)
      before u z (no p) = omega (arith, time_other u p, o.before u (was u p z))

      over : (u v : ℕ) → u ≢ v → place r u ≢ idle → place r v ≢ idle → time u ≤ time v → Dec (u ≡ x) → Dec (v ≡ x)
          → Over t v (place r v) u (place r u)
      over u v n zu zv l (yes p) (yes q) = absurd (n (p ∙ sym q))
      over u v n zu zv l (yes p) (no q) = absurd (omega (arith, time_x u p, time_other v q, o.before v (was v q zv)))
      over u v n zu zv l (no p) (yes q) = rw (place_other u p, q, place_x) (step_over t s c r g u p (was u p zu))
      over u v n zu zv l (no p) (no q) =
          rw (place_other u p, place_other v q)
          (o.over u v n (was u p zu) (was v q zv) (omega (arith, time_other u p, time_other v q)))

  pub step_kept : (s : List ℕ) (c : Step) (r : List ℕ) → step t s c ≡ Granted r → Kept t s → Kept t r
  step_kept s c r e k =
      let g = granted t s c r e in
      record { formed = step_formed t ok s c r g; ordered = step_ordered s c r g k.ordered }

  run_kept : (cs : List Step) (s r : List ℕ) → run t s cs ≡ Granted r → Kept t s → Kept t r
  unfolding run
  run_kept [] s r e k = let q : s ≡ r = cc in rw q at k
  run_kept (c ∷ cs) s r e k = let f = run_first t s c cs r e in run_kept cs f.0 r f.2 (step_kept s c f.0 f.1 k)

  pub reached_kept : (s : List ℕ) → Reached t s → Kept t s
  reached_kept s r = run_kept r.steps fresh s r.granted (fresh_kept t)

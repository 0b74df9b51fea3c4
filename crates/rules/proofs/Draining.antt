-- Draining: the active task that stepped last is over all others, so it may take the processor, to close and to finish. Each such step leaves
-- one step fewer to go, and at most two were to go for each active task.
-- Assumes nothing.
use Prim.Native.Nat.{ℕ, zero, suc, ◌+◌, ◌*◌, ◌≤◌, ◌<◌}
use mathlib.Core.Path.{◌≡◌, refl, ap}
use mathlib.Core.Logic.{◌⊎◌, inl, inr}
use mathlib.Core.Bool.{true, cond}
use mathlib.Core.List.{List, [], ◌∷◌}
use native.Mathlib.Nat.{not-suc-le-zero}
use native.Mathlib.Omega.{arith}
use lib.Dec.{eqb, leb}
use lib.ListN.{length, set}
use borrow.Author.Tests.{ne_eqb, le-leb}
use Rattle.rules.specs.Table.{Table, is_task}
use Rattle.rules.specs.Accepted.{Accepted}
use Rattle.rules.specs.Machine.{places, place, idle, outside, fresh, may_take, Step, Close, Finish, stepper, named, fits, free, next, Granted, step, run}
use Rattle.rules.specs.Runs.{closes_or_finishes, only_closes_and_finishes, actives, Drains}
use Rattle.rules.proofs.Bools.{and_both}
use Rattle.rules.proofs.States.{active_below, active_task, formed_length, all_idle_fresh}
use Rattle.rules.proofs.Steps.{grant, run_then}
use Rattle.rules.proofs.Over.{take_from}
use Rattle.rules.proofs.Invariants.{Kept, step_kept}
use Rattle.rules.proofs.LastStepped.{AllIdle, Last, find_last}

-- The closes and finishes that are to go at a place: none if idle, one if outside, two if inside.
to_go : ℕ → ℕ
to_go zero = 0
to_go (suc zero) = 1
to_go (suc (suc i)) = 2

-- Those of all places.
all_to_go : List ℕ → ℕ
all_to_go [] = 0
all_to_go (v ∷ s) = to_go v + all_to_go s

two_at_most : (v : ℕ) → to_go v ≤ 2 * cond (eqb v idle) 0 1
unfolding to_go
two_at_most zero = omega arith
two_at_most (suc zero) = omega arith
two_at_most (suc (suc i)) = rw (ne_eqb (suc (suc i)) idle (omega arith)) (omega arith)

two_each : (s : List ℕ) → all_to_go s ≤ 2 * actives s
unfolding all_to_go actives
two_each [] = omega arith
two_each (v ∷ s) = omega (arith, two_at_most v, two_each s)

set_to_go : (s : List ℕ) (x v : ℕ) → x < length s → all_to_go (set s x v) + to_go (place s x) ≡ all_to_go s + to_go v
unfolding all_to_go
set_to_go [] x v h = absurd (not-suc-le-zero h)
set_to_go (w ∷ s) zero v h = omega arith
set_to_go (w ∷ s) (suc x) v h = omega (arith, set_to_go s x v (omega arith))

module _ (t : Table) (ok : Accepted t) where
  -- Who has stepped last may take the processor.
  last_takes : (s : List ℕ) (k : Kept t s) (l : Last s k.ordered.time places) → may_take t s l.task ≡ true
  last_takes s k l = take_from t s l.task (λ u q z.
      (k.ordered.over u l.task q z l.active (l.last u (active_below s (formed_length t s k.formed) u z) z)).takes)

  -- A close or a finish that is granted, and leaves one step fewer to go.
  record Shorter (s : List ℕ) : Type 0 where
    first : Step
    ends : closes_or_finishes first ≡ true
    after : List ℕ
    granted : step t s first ≡ Granted after
    fewer : suc (all_to_go after) ≡ all_to_go s

  -- The last one finishes if it is outside, and closes if it is inside.
  shorten : (s : List ℕ) (k : Kept t s) → Last s k.ordered.time places → Shorter s
  unfolding closes_or_finishes named fits free stepper next to_go
  shorten s k l = phase (place s x) refl
    where
      x : ℕ
      x = l.task

      task : is_task t.tree x ≡ true
      task = active_task t s k.formed x l.active

      below : x < length s
      below = omega (arith, active_below s (formed_length t s k.formed) x l.active, formed_length t s k.formed)

      phase : (v : ℕ) → place s x ≡ v → Shorter s
      phase zero e = absurd (l.active e)
      phase (suc zero) e =
          record {
            first = Finish x;
            ends = refl;
            after = set s x idle;
            granted =
                grant t s (Finish x) (set s x idle)
                (record { formed = k.formed; names = task; fit = rw e; takes = last_takes s k l; clear = refl; result = refl });
            fewer = omega (arith, rw e at (set_to_go s x idle below));
          }
      phase (suc (suc i)) e =
          let far : leb 2 (place s x) ≡ true = le-leb 2 (place s x) (omega arith) in
          record {
            first = Close x;
            ends = refl;
            after = set s x outside;
            granted =
                grant t s (Close x) (set s x outside)
                (record { formed = k.formed; names = task; fit = far; takes = last_takes s k l; clear = refl; result = refl });
            fewer = omega (arith, rw e at (set_to_go s x outside below));
          }

  -- Closes and finishes alone, at most n of them, all granted, end in fresh.
  record DrainsIn (s : List ℕ) (n : ℕ) : Type 0 where
    steps : List Step
    alone : only_closes_and_finishes steps ≡ true
    granted : run t s steps ≡ Granted fresh
    few : length steps ≤ n

  drained : (s : List ℕ) → Kept t s → AllIdle s places → (n : ℕ) → DrainsIn s n
  unfolding only_closes_and_finishes run
  drained s k f n =
      let e = all_idle_fresh s (formed_length t s k.formed) f in
      record { steps = []; alone = refl; granted = ap Granted e; few = omega arith }

  one_then : (s : List ℕ) (f : Shorter s) (n : ℕ) → DrainsIn f.after n → DrainsIn s (suc n)
  unfolding only_closes_and_finishes
  one_then s f n d =
      record {
        steps = f.first ∷ d.steps;
        alone = and_both _ _ f.ends d.alone;
        granted = run_then t s f.first f.after d.steps fresh f.granted d.granted;
        few = omega (arith, d.few);
      }

  drain : (n : ℕ) (s : List ℕ) → Kept t s → all_to_go s ≡ n → DrainsIn s n
  drain zero s k e = side (find_last s k.ordered.time places)
    where
      side : AllIdle s places ⊎ Last s k.ordered.time places → DrainsIn s zero
      side (inl f) = drained s k f zero
      side (inr l) = absurd (omega (arith, (shorten s k l).fewer))
  drain (suc n) s k e = side (find_last s k.ordered.time places) (drain n)
    where
      side : AllIdle s places ⊎ Last s k.ordered.time places
          → ((r : List ℕ) → Kept t r → all_to_go r ≡ n → DrainsIn r n) → DrainsIn s (suc n)
      side (inl f) rest = drained s k f (suc n)
      side (inr l) rest =
          let f = shorten s k l in
          one_then s f n (rest f.after (step_kept t ok s f.first f.after f.granted k) (omega (arith, f.fewer)))

  pub kept_drains : (s : List ℕ) → Kept t s → Drains t s
  kept_drains s k =
      let d = drain (all_to_go s) s k refl in
      record { steps = d.steps; alone = d.alone; granted = d.granted; few = omega (arith, d.few, two_each s) }

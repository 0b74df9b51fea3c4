-- The four steps of a race are all granted: task(i) is alone when it starts and opens, and task(j) finds only task(i) active, inside i, which
-- it may preempt, whose masks do not cover it, and with which it shares no blocking lock.
-- Assumes nothing.
use Prim.Native.Nat.{ℕ, ◌<◌}
use mathlib.Core.Path.{◌≡◌, refl, sym, ◌∙◌}
use mathlib.Core.Logic.{◌≢◌}
use mathlib.Core.Bool.{true, false}
use mathlib.Core.List.{List, [], ◌∷◌}
use native.Mathlib.Decide.{ℕ_discrete}
use native.Mathlib.Omega.{arith}
use lib.ListN.{set}
use borrow.Author.Tests.{lt-ltb}
use Rattle.rules.specs.Table.{Table}
use Rattle.rules.specs.Accepted.{Accepted}
use Rattle.rules.specs.Locks.{blocked}
use Rattle.rules.specs.Machine.{place, idle, outside, inside, fresh, well_formed, held, may_take, unblocked, Step, Start, Open, stepper, named, fits, free, next, Granted, run}
use Rattle.rules.specs.Runs.{IsOpen, four_steps, JustOpen}
use Rattle.rules.proofs.States.{fresh_idle, fresh_formed}
use Rattle.rules.proofs.Steps.{Grant, grant, run_then, step_same, step_other, step_formed}
use Rattle.rules.proofs.Over.{TakesFrom, take_from, unblocked_from, held_inside, held_nothing, unblocked_both}
use Rattle.rules.proofs.Racing.{Racing}

-- Start and open lead from s to r, in which access i is open and all other places are as they were.
record Entered (t : Table) (s : List ℕ) (i : ℕ) (r : List ℕ) : Type 0 where
  formed : well_formed t r ≡ true
  within : IsOpen t r i
  others : (u : ℕ) → u ≢ t.task_of i → place r u ≡ place s u
  before : (cs : List Step) (q : List ℕ) → run t r cs ≡ Granted q → run t s (Start (t.task_of i) ∷ Open i ∷ cs) ≡ Granted q

-- Access i is entered so from a state in which its task is idle, if the other tasks let it take the processor and leave it unblocked.
module _ (t : Table) (ok : Accepted t) (s : List ℕ) (formed : well_formed t s ≡ true) (i : ℕ) (h : i < t.accesses)
    (z : place s (t.task_of i) ≡ idle)
    (let-in : (r : List ℕ) → ((u : ℕ) → u ≢ t.task_of i → place r u ≡ place s u)
    → (may_take t r (t.task_of i) ≡ true) × (unblocked t r i ≡ true)) where
  started : List ℕ
  started = set s (t.task_of i) outside

  opened : List ℕ
  opened = set started (t.task_of i) (inside i)

  starts : Grant t s (Start (t.task_of i)) started
  unfolding started named fits free stepper next
  starts =
      record { formed = formed; names = ok.tasks i h; fit = rw z; takes = (let-in s (λ u q. refl)).0; clear = refl; result = refl }

  others_started : (u : ℕ) → u ≢ t.task_of i → place started u ≡ place s u
  unfolding stepper
  others_started = step_other t ok s (Start (t.task_of i)) started starts

  opens : Grant t started (Open i) opened
  unfolding opened named fits free stepper next
  opens =
      record {
        formed = step_formed t ok s (Start (t.task_of i)) started starts;
        names = lt-ltb i t.accesses h;
        fit = rw (step_same t ok s (Start (t.task_of i)) started starts);
        takes = (let-in started others_started).0;
        clear = (let-in started others_started).1;
        result = refl;
      }

  entered : Entered t s i opened
  unfolding stepper next
  entered =
      record {
        formed = step_formed t ok started (Open i) opened opens;
        within = step_same t ok started (Open i) opened opens;
        others = λ u q. step_other t ok started (Open i) opened opens u q ∙ others_started u q;
        before = λ cs q e.
            run_then t s (Start (t.task_of i)) started (Open i ∷ cs) q (grant t s (Start (t.task_of i)) started starts)
            (run_then t started (Open i) opened cs q (grant t started (Open i) opened opens) e);
      }

-- A task that is alone may take the processor, and its access is unblocked.
module _ (t : Table) (s : List ℕ) where
  alone_takes : (x : ℕ) → ((u : ℕ) → u ≢ x → place s u ≡ idle) → may_take t s x ≡ true
  alone_takes x rest = take_from t s x (λ u q z. absurd (z (rest u q)))

  alone_unblocked : (i : ℕ) → ((u : ℕ) → u ≢ t.task_of i → place s u ≡ idle) → unblocked t s i ≡ true
  alone_unblocked i rest = unblocked_from t s i (λ u q. held_nothing t (place s u) (t.lock_set i) (omega (arith, rest u q)))

-- So may the task of j beside the task of i, which is inside i, where (i, j) is a race.
module _ (t : Table) (i j : ℕ) (g : Racing t i j) (s : List ℕ) (within : place s (t.task_of i) ≡ inside i)
    (rest : (u : ℕ) → u ≢ t.task_of i → u ≢ t.task_of j → place s u ≡ idle) where
  second_takes : may_take t s (t.task_of j) ≡ true
  second_takes = take_from t s (t.task_of j) (λ u q z. one u q z (ℕ_discrete u (t.task_of i)))
    where
      one : (u : ℕ) → u ≢ t.task_of j → place s u ≢ idle → Dec (u ≡ t.task_of i) → TakesFrom t (t.task_of j) u (place s u)
      one u q z (yes e) = rw (e, within) (record { preempts = g.preempts; unmasked = rw (held_inside t i) g.unmasked })
      one u q z (no e) = absurd (z (rest u e q))

  second_unblocked : unblocked t s j ≡ true
  second_unblocked = unblocked_from t s j (λ u q. one u q (ℕ_discrete u (t.task_of i)))
    where
      one : (u : ℕ) → u ≢ t.task_of j → Dec (u ≡ t.task_of i) → blocked t (t.lock_set j) (held t (place s u)) ≡ false
      one u q (yes e) = rw (e, within, held_inside t i) (unblocked_both t (t.lock_set i) (t.lock_set j) g.unshared)
      one u q (no e) = held_nothing t (place s u) (t.lock_set j) (omega (arith, rest u e q))

-- Access i is entered from fresh, and then access j.
module _ (t : Table) (ok : Accepted t) (i j : ℕ) (hi : i < t.accesses) (hj : j < t.accesses) (g : Racing t i j) where
  first : (r : List ℕ) × Entered t fresh i r
  first = (
    _,
    entered t ok fresh (fresh_formed t) i hi (fresh_idle (t.task_of i)) (λ r same.
        let rest : (u : ℕ) → u ≢ t.task_of i → place r u ≡ idle = λ u q. same u q ∙ fresh_idle u in
        (alone_takes t r (t.task_of i) rest, alone_unblocked t r i rest)),
  )

  second : (r : List ℕ) × Entered t first.0 j r
  second = (
    _,
    entered t ok first.0 first.1.formed j hj
        (first.1.others (t.task_of j) (λ q. g.different (sym q)) ∙ fresh_idle (t.task_of j)) (λ r same.
        let within : place r (t.task_of i) ≡ inside i = same (t.task_of i) g.different ∙ first.1.within in
        let rest : (u : ℕ) → u ≢ t.task_of i → u ≢ t.task_of j → place r u ≡ idle
        = λ u p q. same u q ∙ first.1.others u p ∙ fresh_idle u in
        (second_takes t i j g r within rest, second_unblocked t i j g r within rest)),
  )

  pub four_steps_lem : (s : List ℕ) × (run t fresh (four_steps t i j) ≡ Granted s) × JustOpen t s i j
  unfolding four_steps run
  four_steps_lem = (
    second.0,
    first.1.before (Start (t.task_of j) ∷ Open j ∷ []) second.0 (second.1.before [] second.0 refl),
    record {
      one = second.1.others (t.task_of i) g.different ∙ first.1.within;
      two = second.1.within;
      rest = λ n p q. second.1.others n q ∙ first.1.others n p ∙ fresh_idle n;
    },
  )

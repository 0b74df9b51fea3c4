-- What is said of runs: which states are reached, when two tasks meet in a resource, the steps that show a race, and draining to idle.
-- Assumes nothing.
use Rattle.std.specs.Prelude.{ℕ, ◌+◌, ◌*◌, ◌≤◌, ◌≡◌, ◌≢◌, Bool, true, false, ◌&&◌, cond, eqb, length}
use mathlib.Core.List.{List, [], ◌∷◌, Memᴰ}
use Rattle.rules.specs.Table.{Table}
use Rattle.rules.specs.Races.{races}
use Rattle.rules.specs.Machine.{place, idle, inside, fresh, Step, Start, Open, Close, Finish, Granted, run}

-- Some sequence of granted steps leads from fresh to the state s.
pub record Reached (t : Table) (s : List ℕ) : Type 0 where
  pub steps : List Step
  pub granted : run t fresh steps ≡ Granted s

-- Access i is open: its task is inside it.
abbrev pub IsOpen : Table → List ℕ → ℕ → Type 0
IsOpen t s i = place s (t.task_of i) ≡ inside i

-- Two different tasks are inside one resource: each is inside an access, and the two accesses have the same resource number.
pub record Meet (t : Table) (s : List ℕ) : Type 0 where
  pub one : ℕ
  pub other : ℕ
  pub different : one ≢ other
  pub i : ℕ
  pub j : ℕ
  pub one_inside : place s one ≡ inside i
  pub other_inside : place s other ≡ inside j
  pub same_resource : t.resource_of i ≡ t.resource_of j

-- The pair (i, j) is reported: it stands in the race list.
abbrev pub Reported : Table → ℕ → ℕ → Type 0
Reported t i j = Memᴰ (record { one = i; two = j }) (races t)

-- The four steps of a pair: start task(i), open i, start task(j), open j.
unfoldable pub four_steps : Table → ℕ → ℕ → List Step
four_steps t i j = Start (t.task_of i) ∷ Open i ∷ Start (t.task_of j) ∷ Open j ∷ []

-- Accesses i and j are open, and all but their tasks are idle.
pub record JustOpen (t : Table) (s : List ℕ) (i j : ℕ) : Type 0 where
  pub one : IsOpen t s i
  pub two : IsOpen t s j
  pub rest : (n : ℕ) → n ≢ t.task_of i → n ≢ t.task_of j → place s n ≡ idle

-- A close or a finish.
unfoldable pub closes_or_finishes : Step → Bool
closes_or_finishes (Start x) = false
closes_or_finishes (Open i) = false
closes_or_finishes (Close x) = true
closes_or_finishes (Finish x) = true

-- Closes and finishes alone.
unfoldable pub only_closes_and_finishes : List Step → Bool
only_closes_and_finishes [] = true
only_closes_and_finishes (c ∷ cs) = closes_or_finishes c && only_closes_and_finishes cs

-- The number of active tasks, inside or outside.
unfoldable pub actives : List ℕ → ℕ
actives [] = 0
actives (v ∷ s) = cond (eqb v idle) 0 1 + actives s

-- Closes and finishes alone, all granted, lead from the state s to fresh, in at most two steps for each active task.
pub record Drains (t : Table) (s : List ℕ) : Type 0 where
  pub steps : List Step
  pub alone : only_closes_and_finishes steps ≡ true
  pub granted : run t s steps ≡ Granted fresh
  pub few : length steps ≤ 2 * actives s

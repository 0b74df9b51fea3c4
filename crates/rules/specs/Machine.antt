-- The stepping machine: its state, its steps, what refuses a step, and runs.
-- Assumes nothing.
use Rattle.std.specs.Prelude.{ℕ, ◌+◌, ◌-◌, Bool, true, false, not, ◌&&◌, ◌||◌, cond, List, [], ◌∷◌, ltb, leb, eqb, length, get_or, set, replicate}
use Rattle.rules.specs.Bounded.{all_below}
use Rattle.rules.specs.Table.{Table, is_task}
use Rattle.rules.specs.Preemption.{may_preempt}
use Rattle.rules.specs.Locks.{masked, blocked}

-- A state has 128 places, one a node number.
abbrev pub places : ℕ
places = 128

abbrev pub place : List ℕ → ℕ → ℕ
place s n = get_or s n 0

-- What stands at a place: 0 idle, 1 active and outside, 2 + i inside access i.
abbrev pub idle : ℕ
idle = 0

abbrev pub outside : ℕ
outside = 1

abbrev pub inside : ℕ → ℕ
inside i = 2 + i

-- A fresh state has all places idle.
unfoldable pub fresh : List ℕ
fresh = replicate places idle

-- v may stand at place n: 2 + i stands only at the task of an existing access i; places N and up and those of schedulers are 0.
unfoldable pub place_right : Table → ℕ → ℕ → Bool
place_right t n v =
    eqb v idle
    || (is_task t.tree n && (eqb v outside || (leb 2 v && ltb (v - 2) t.accesses && eqb (t.task_of (v - 2)) n)))

unfoldable pub well_formed : Table → List ℕ → Bool
well_formed t s = eqb (length s) places && all_below places (λ n. place_right t n (place s n))

-- The lock set of the open access of a task at whose place v stands; empty where the task is outside.
unfoldable pub held : Table → ℕ → ℕ
held t v = cond (leb 2 v) (t.lock_set (v - 2)) 0

-- Task x may take the processor: every other active task u it may preempt, and no mask in the set of u's open access covers it.
unfoldable pub may_take : Table → List ℕ → ℕ → Bool
may_take t s x =
    all_below t.tree.nodes (λ u.
    eqb u x || eqb (place s u) idle || (may_preempt t.tree x u && not (masked t (held t (place s u)) x)))

-- No blocking lock of access i is in the set of another task's open access.
unfoldable pub unblocked : Table → List ℕ → ℕ → Bool
unblocked t s i =
    all_below t.tree.nodes (λ u. eqb u (t.task_of i) || not (blocked t (t.lock_set i) (held t (place s u))))

-- Start, close and finish name a task; open names an access.
pub data Step : Type 0 where
  Start : ℕ → Step
  Open : ℕ → Step
  Close : ℕ → Step
  Finish : ℕ → Step

-- The task whose step it is.
unfoldable pub stepper : Table → Step → ℕ
stepper t (Start x) = x
stepper t (Open i) = t.task_of i
stepper t (Close x) = x
stepper t (Finish x) = x

-- The step names a task, or an access.
unfoldable pub named : Table → Step → Bool
named t (Start x) = is_task t.tree x
named t (Open i) = ltb i t.accesses
named t (Close x) = is_task t.tree x
named t (Finish x) = is_task t.tree x

-- The step fits the task's phase: v stands at its place.
unfoldable pub fits : Step → ℕ → Bool
fits (Start x) v = eqb v idle
fits (Open i) v = eqb v outside
fits (Close x) v = leb 2 v
fits (Finish x) v = eqb v outside

-- Open alone asks for blocking locks.
unfoldable pub free : Table → List ℕ → Step → Bool
free t s (Start x) = true
free t s (Open i) = unblocked t s i
free t s (Close x) = true
free t s (Finish x) = true

-- What stands at the task's place after the step.
unfoldable pub next : Step → ℕ
next (Start x) = outside
next (Open i) = inside i
next (Close x) = outside
next (Finish x) = idle

-- A step is granted with the state after it, or denied with a refusal's number.
pub data Stepped : Type 0 where
  Granted : List ℕ → Stepped
  Denied : ℕ → Stepped

-- Denied with number n, unless the test passes.
unfoldable pub granting : Bool → ℕ → Stepped → Stepped
granting true n a = a
granting false n a = Denied n

-- One step of the machine, from the state s.
unfoldable pub step : Table → List ℕ → Step → Stepped
step t s c =
    granting (well_formed t s) 14
    (granting (named t c) 15
    (granting (fits c (place s (stepper t c))) 16
    (granting (may_take t s (stepper t c)) 17
    (granting (free t s c) 18 (Granted (set s (stepper t c) (next c)))))))

-- What follows a granted step.
unfoldable pub after : Stepped → (List ℕ → Stepped) → Stepped
after (Granted s) f = f s
after (Denied n) f = Denied n

-- A run: one step after the other, all granted, or the first denial.
unfoldable pub run : Table → List ℕ → List Step → Stepped
run t s [] = Granted s
run t s (c ∷ cs) = after (step t s c) (λ s'. run t s' cs)

-- The machine and the race list agree, for every table that is read. Two different tasks get inside one resource by granted steps exactly when
-- the race list is not empty; four steps show each of its pairs; accesses that are open at once are reported; and every state reached drains.
-- Assumes nothing.
use Prim.Native.Nat.{ℕ}
use mathlib.Core.Path.{◌≡◌, refl}
use mathlib.Core.Logic.{◌≢◌, ◌↔◌, ◌⊎◌, inl, inr}
use mathlib.Core.List.Memᴰ
use mathlib.Core.List.{List, [], ◌∷◌, Memᴰ}
use Rattle.rules.specs.Bounded.{Pair}
use Rattle.rules.specs.Table.{Table}
use Rattle.rules.specs.Reading.{Is, read}
use Rattle.rules.specs.Races.{races}
use Rattle.rules.specs.Machine.{fresh, Granted, run}
use Rattle.rules.specs.Runs.{Reached, IsOpen, Meet, Reported, four_steps, JustOpen, Drains}
use Rattle.rules.proofs.Accepted.{accepted}
use Rattle.rules.proofs.Lists.{races_are}
use Rattle.rules.proofs.Invariants.{reached_kept}
use Rattle.rules.proofs.Racing.{race_says, meet_reported}
use Rattle.rules.proofs.FourSteps.{four_steps_lem}
use Rattle.rules.proofs.Draining.{kept_drains}

some_pair : (l : List Pair) → l ≢ [] → (q : Pair) × Memᴰ q l
some_pair [] h = absurd (h refl)
some_pair (q ∷ l) h = (q, Memᴰ.head refl)

-- Two open accesses of one resource, by different tasks, are two tasks that meet.
opens_meet : (t : Table) (s : List ℕ) (i j : ℕ) → IsOpen t s i → IsOpen t s j → t.task_of i ≢ t.task_of j
    → t.resource_of i ≡ t.resource_of j → Meet t s
opens_meet t s i j hi hj n r =
    record {
      one = t.task_of i;
      other = t.task_of j;
      different = n;
      i = i;
      j = j;
      one_inside = hi;
      other_inside = hj;
      same_resource = r;
    }

module _ (b : List ℕ) (t : Table) (e : read b ≡ Is t) where
  -- Each pair of the race list is reached by start task(i), open i, start task(j), open j, all granted: the two accesses are then open, and
  -- all else is idle.
  pub race_in_four_steps : (i j : ℕ) → Reported t i j → (s : List ℕ) × (run t fresh (four_steps t i j) ≡ Granted s) × JustOpen t s i j
  race_in_four_steps i j r = let m = (races_are t i j).0 r in four_steps_lem t (accepted b t e) i j m.0 m.1 (race_says t i j m.2)

  -- Any two accesses open at once in a reached state, on one resource and by different tasks, are a reported race in one order or the other.
  pub open_at_once_reported : (s : List ℕ) → Reached t s → (i j : ℕ) → IsOpen t s i → IsOpen t s j → t.task_of i ≢ t.task_of j
      → t.resource_of i ≡ t.resource_of j → Reported t i j ⊎ Reported t j i
  unfolding opens_meet
  open_at_once_reported s r i j hi hj n same =
      meet_reported t s (reached_kept t (accepted b t e) s r) (opens_meet t s i j hi hj n same)

  -- Some sequence of granted steps from fresh puts two different tasks inside one resource exactly when the race list is not empty.
  pub tasks_meet_iff_race : ((s : List ℕ) × Reached t s × Meet t s) ↔ (races t ≢ [])
  tasks_meet_iff_race = (λ w z. listed z (meet_reported t w.0 (reached_kept t (accepted b t e) w.0 w.1) w.2), λ h. met (some_pair (races t) h))
    where
      listed : {i j : ℕ} → races t ≡ [] → Reported t i j ⊎ Reported t j i → ⊥
      listed z (inl h) = Memᴰ.not-nil (rw z at h)
      listed z (inr h) = Memᴰ.not-nil (rw z at h)

      met : (q : Pair) × Memᴰ q (races t) → (s : List ℕ) × Reached t s × Meet t s
      met (q, h) =
          let w = race_in_four_steps q.one q.two h in
          let r = race_says t q.one q.two ((races_are t q.one q.two).0 h).2 in (
            w.0,
            record { steps = four_steps t q.one q.two; granted = w.1 },
            opens_meet t w.0 q.one q.two w.2.one w.2.two r.different r.shared,
          )

  -- From every state reached, closes and finishes alone, all granted, lead back to fresh, in at most two steps for each active task.
  pub reached_drains : (s : List ℕ) → Reached t s → Drains t s
  reached_drains s r = kept_drains t (accepted b t e) s (reached_kept t (accepted b t e) s r)

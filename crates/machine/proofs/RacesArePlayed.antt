-- Demand 3 for the code, on the bytes b of a table t: what `step` grants, call after call, from the state `new` that `State::fresh` answers.
-- Each theorem is that of the rules, carried over by `plays_iff_run`.
-- Assumes nothing.
use Prim.Native.Nat.{ℕ, zero, suc, ◌*◌, ◌≤◌, ◌<◌}
use mathlib.Core.Path.{◌≡◌, sym, ◌∙◌, ap}
use mathlib.Core.Logic.{◌≢◌, ◌↔◌, ◌⊎◌}
use mathlib.Core.Bool.{true}
use mathlib.Core.List.{List, []}
use native.Mathlib.Omega.{arith}
use lib.ListN.{length}
use Rattle.rules.specs.Table.{Table}
use Rattle.rules.specs.Reading.{Is, read}
use Rattle.rules.specs.Races.{races}
use Rattle.rules.specs.Machine as rules
use Rattle.rules.specs.Machine.{place, inside, fresh, run}
use Rattle.rules.specs.Runs.{Reached, IsOpen, Meet, Reported, JustOpen, only_closes_and_finishes, actives}
use Rattle.rules.proofs.Accepted.{accepted}
use Rattle.rules.proofs.States.{formed_length, inside_access}
use Rattle.rules.proofs.Invariants.{reached_kept}
use Rattle.rules.proofs.RacesAreReached.{race_in_four_steps, open_at_once_reported, tasks_meet_iff_race, reached_drains}
use Rattle.machine.specs.declared.State.{State}
use Rattle.machine.specs.declared.Step.{Step}
use Rattle.machine.specs.Plays.{Plays, steps_of, four_calls}
use Rattle.machine.proofs.CodeSteps.{code_steps, steps_back, back_length, four_calls_lem}
use Rattle.machine.proofs.PlayingIsRunning.{plays_iff_run}

-- What stands at a place is a byte where it stands inside one of 128 accesses.
byte : (v : ℕ) → ((i : ℕ) → v ≡ inside i → i < 128) → v < 256
byte zero f = omega arith
byte (suc zero) f = omega arith
byte (suc (suc i)) f = omega (arith, f i (omega arith))

module _ (b : List ℕ) (t : Table) (e : read b ≡ Is t) (new : State) (idle : new.places ≡ fresh) where
  -- A state that the code comes to is reached, and a state that is reached the code comes to.
  played_reached : (cs : List Step) (s : State) → Plays b new cs s → Reached t s.places
  played_reached cs s p = record { steps = steps_of cs; granted = rw (sym idle) ((plays_iff_run b t e new cs s).0 p) }

  run_played : (cs : List Step) (s : State) → run t fresh (steps_of cs) ≡ rules.Granted s.places → Plays b new cs s
  run_played cs s h = (plays_iff_run b t e new cs s).1 (rw idle h)

  -- Every state that the code comes to is an array of 128 bytes.
  pub played_is_array : (cs : List Step) (s : State) → Plays b new cs s → (length s.places ≡ 128) × ((n : ℕ) → place s.places n < 256)
  played_is_array cs s p =
      let ok = accepted b t e in
      let formed = (reached_kept t ok s.places (played_reached cs s p)).formed in (
        formed_length t s.places formed,
        λ n. byte (place s.places n) (λ i h. omega (arith, (inside_access t s.places formed n i h).0, ok.few_accesses)),
      )

  -- Some sequence of steps that the code grants puts two different tasks inside one resource exactly when the race list is not empty.
  pub tasks_meet_iff_race_played : ((cs : List Step) × (s : State) × Plays b new cs s × Meet t s.places) ↔ (races t ≢ [])
  tasks_meet_iff_race_played = (λ w. (tasks_meet_iff_race b t e).0 (w.1.places, played_reached w.0 w.1 w.2, w.3), λ h. met ((tasks_meet_iff_race b t e).1 h))
    where
      met : (s : List ℕ) × Reached t s × Meet t s → (cs : List Step) × (s : State) × Plays b new cs s × Meet t s.places
      met w = (
        code_steps w.1.steps,
        record { places = w.0 },
        run_played (code_steps w.1.steps) (record { places = w.0 }) (rw (steps_back w.1.steps) w.1.granted),
        w.2,
      )

  -- The code grants the four steps of each pair of the race list: the two accesses are then open, and all else is idle.
  pub race_played_in_four_steps : (i j : ℕ) → Reported t i j → (s : State) × Plays b new (four_calls t i j) s × JustOpen t s.places i j
  race_played_in_four_steps i j r =
      let w = race_in_four_steps b t e i j r in (
        record { places = w.0 },
        run_played (four_calls t i j) (record { places = w.0 }) (rw (four_calls_lem t i j) w.1),
        w.2,
      )

  -- Any two accesses open at once in a state that the code comes to, on one resource and by different tasks, are a reported race.
  pub open_at_once_reported_played : (cs : List Step) (s : State) → Plays b new cs s → (i j : ℕ) → IsOpen t s.places i → IsOpen t s.places j
      → t.task_of i ≢ t.task_of j → t.resource_of i ≡ t.resource_of j → Reported t i j ⊎ Reported t j i
  open_at_once_reported_played cs s p = open_at_once_reported b t e s.places (played_reached cs s p)

  -- From every state that the code comes to it grants closes and finishes alone that lead back to the fresh state, at most two for each
  -- active task.
  pub played_drains : (cs : List Step) (s : State) → Plays b new cs s
      → (ds : List Step) × Plays b s ds new × (only_closes_and_finishes (steps_of ds) ≡ true) × (length ds ≤ 2 * actives s.places)
  played_drains cs s p =
      let d = reached_drains b t e s.places (played_reached cs s p) in (
        code_steps d.steps,
        (plays_iff_run b t e s (code_steps d.steps) new).1 (rw (steps_back d.steps) (d.granted ∙ ap rules.Granted (sym idle))),
        rw (steps_back d.steps) d.alone,
        rw (back_length d.steps) d.few,
      )

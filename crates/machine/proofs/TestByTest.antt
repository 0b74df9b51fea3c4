-- One step, test by test: the first test that fails denies it, and where all pass one place changes. x is the task whose step it is, and v
-- what then stands at its place.
-- Assumes nothing.
use Prim.Native.Nat.{ℕ}
use mathlib.Core.Path.{◌≡◌}
use mathlib.Core.Bool.{true, false}
use mathlib.Core.List.{List}
use lib.ListN.{set}
use Rattle.rules.specs.Table.{Table}
use Rattle.rules.specs.Machine.{place, well_formed, may_take, Step, stepper, named, fits, free, next, granting, step}
use Rattle.rules.specs.Calls.{Value, refusing, stepped}

module _ (t : Table) (s : List ℕ) (c : Step) where
  pub malformed : well_formed t s ≡ false → stepped s (step t s c) ≡ refusing 14 0 s
  unfolding step granting stepped
  malformed h = rw h

  module _ (formed : well_formed t s ≡ true) where
    pub unnamed : named t c ≡ false → stepped s (step t s c) ≡ refusing 15 0 s
    unfolding step granting stepped
    unnamed h = rw (formed, h)

    module _ (names : named t c ≡ true) (x : ℕ) (e : x ≡ stepper t c) where
      pub out_of_phase : fits c (place s x) ≡ false → stepped s (step t s c) ≡ refusing 16 0 s
      unfolding step granting stepped
      out_of_phase h = rw (formed, names, ← e, h)

      module _ (fit : fits c (place s x) ≡ true) where
        pub not_to_take : may_take t s x ≡ false → stepped s (step t s c) ≡ refusing 17 0 s
        unfolding step granting stepped
        not_to_take h = rw (formed, names, ← e, fit, h)

        module _ (takes : may_take t s x ≡ true) where
          pub lock_held : free t s c ≡ false → stepped s (step t s c) ≡ refusing 18 0 s
          unfolding step granting stepped
          lock_held h = rw (formed, names, ← e, fit, takes, h)

          pub all_pass : free t s c ≡ true → (v : ℕ) → v ≡ next c → stepped s (step t s c) ≡ record { answer = Value 0; buffer = set s x v }
          unfolding step granting stepped
          all_pass h v q = rw (formed, names, ← e, fit, takes, h, q)

-- Every step of the rules is one of the code's: there and back gives the step again.
-- Assumes nothing.
use Prim.Native.Nat.{ℕ}
use mathlib.Core.Path.{◌≡◌, refl}
use mathlib.Core.List.{List, [], ◌∷◌}
use lib.ListN.{length}
use Rattle.rules.specs.Table.{Table}
use Rattle.rules.specs.Machine as rules
use Rattle.rules.specs.Runs.{four_steps}
use Rattle.machine.specs.declared.Step.{Step}
use Rattle.machine.specs.declared.Step.TheVariants.{Start, Open, Close, Finish}
use Rattle.machine.specs.Answers.{step_of}
use Rattle.machine.specs.Plays.{steps_of, four_calls}

code_step : rules.Step → Step
code_step (rules.Start x) = Start x
code_step (rules.Open i) = Open i
code_step (rules.Close x) = Close x
code_step (rules.Finish x) = Finish x

pub code_steps : List rules.Step → List Step
code_steps [] = []
code_steps (c ∷ cs) = code_step c ∷ code_steps cs

step_back : (c : rules.Step) → step_of (code_step c) ≡ c
unfolding step_of code_step
step_back (rules.Start x) = refl
step_back (rules.Open i) = refl
step_back (rules.Close x) = refl
step_back (rules.Finish x) = refl

pub steps_back : (cs : List rules.Step) → steps_of (code_steps cs) ≡ cs
unfolding steps_of code_steps
steps_back [] = refl
steps_back (c ∷ cs) = rw (step_back c, steps_back cs)

pub back_length : (cs : List rules.Step) → length (code_steps cs) ≡ length cs
unfolding code_steps
back_length [] = refl
back_length (c ∷ cs) = rw (back_length cs)

pub four_calls_lem : (t : Table) (i j : ℕ) → steps_of (four_calls t i j) ≡ four_steps t i j
unfolding steps_of step_of four_calls four_steps
four_calls_lem t i j = refl

-- Playing steps through the code is running the machine of the rules: the two are granted for the same steps, and end in the same state.
-- A granted answer is the machine's state after the step; and what the machine grants, the contract lets the code answer. It leaves `step`
-- one answer (`step_unique`), so what `step` may answer is what it answers.
-- Assumes nothing.
use Prim.Native.Nat.{ℕ}
use contract.Lifetimes.{Lfts}
use denote.Triple.Clauses.{AtExit}
use borrow.Fn.Kinds.{Dens, res_t, ended_of}
use mathlib.Core.Path.{◌≡◌, refl, sym, ap}
use mathlib.Core.Logic.{◌↔◌}
use mathlib.Core.Bool.{true}
use mathlib.Core.List.{List, [], ◌∷◌}
use native.Mathlib.Omega.{arith}
use borrow.Author.Tests.{ltb-true}
use Rattle.rules.specs.Table.{Table}
use Rattle.rules.specs.Reading.{Is, read}
use Rattle.rules.specs.Accepted.{Accepted}
use Rattle.rules.specs.Machine as rules
use Rattle.rules.specs.Machine.{fresh, named, step, run}
use Rattle.std.specs.Prelude.{Result, Ok}
use Rattle.rules.specs.Calls.{Left, Value, Refusal, reading, refusing, stepped, step_call}
use Rattle.table.specs.declared.refusals.Fault.{Fault}
use Rattle.rules.proofs.Accepted.{accepted}
use Rattle.rules.proofs.Nodes.{task_at}
use Rattle.rules.proofs.Steps.{granted, run_first, run_then}
use Rattle.machine.specs.declared.State.{State}
use Rattle.machine.specs.declared.Step.{Step}
use Rattle.machine.specs.declared.Step.TheVariants.{Start, Open, Close, Finish}
use Rattle.machine.specs.Answers.{step_of, left}
use Rattle.machine.specs.Plays.{MayAnswer, number_of, CanPass, Plays, end, call, steps_of}
use Rattle.machine.proofs.Unique.{places_same}
use Rattle.machine.proofs.State.fresh.Kinds as fresh-kinds
use Rattle.machine.proofs.State.fresh.Reads as fresh-reads
use Rattle.machine.proofs.State.step.Kinds as step-kinds
use Rattle.machine.proofs.State.step.Reads as step-reads

-- The contract of `step` is `MayAnswer`, and that of `State::fresh` says that the places are those of the fresh state.
pub step_may_answer :
    (κs : Lfts 1) (a : Dens κs step-kinds.ps) (r : (res_t step-kinds.r κs).Denot) (x : AtExit (ended_of 1 step-kinds.ps step-kinds.r) κs)
    → step-reads.Post κs a r x ↔ MayAnswer a.1.0.now a.0 a.1.1.0 r
step_may_answer κs a r x = (λ p. p, λ p. p)

pub fresh_answers :
    (κs : Lfts 0) (a : Dens κs fresh-kinds.ps) (r : (res_t fresh-kinds.r κs).Denot) (x : AtExit (ended_of 0 fresh-kinds.ps fresh-kinds.r) κs)
    → fresh-reads.Post κs a r x ↔ (r.places ≡ fresh)
fresh_answers κs a r x = (λ p. p, λ p. p)

-- A granted answer is the machine's grant, of the same state.
granted_answer : (s : State) (m : rules.Stepped) (n : State) → left s (Ok n) ≡ stepped s.places m → m ≡ rules.Granted n.places
unfolding left stepped refusing
granted_answer s (rules.Granted s') n e = ap rules.Granted (sym (ap (λ (l : Left). l.buffer) e))
granted_answer s (rules.Denied k) n e =
    let w : Value 0 ≡ Refusal k 0 = ap (λ (l : Left). l.answer) e in
    let z : ◌≡◌ {A = ℕ} 0 1 = cc in absurd (omega arith)

-- A step that names a task or an access names a small number.
named_can_pass : (t : Table) → Accepted t → (c : Step) → named t (step_of c) ≡ true → CanPass c
unfolding step_of number_of named
named_can_pass t ok (Start x) h = omega (arith, (task_at t.tree x h).0, ok.tree.few)
named_can_pass t ok (Open i) h = omega (arith, ltb-true i t.accesses h, ok.few_accesses)
named_can_pass t ok (Close x) h = omega (arith, (task_at t.tree x h).0, ok.tree.few)
named_can_pass t ok (Finish x) h = omega (arith, (task_at t.tree x h).0, ok.tree.few)

module _ (b : List ℕ) (t : Table) (e : read b ≡ Is t) where
  answers_step : (s : State) (c : Step) (r : Result State Fault) → MayAnswer b s c r → left s r ≡ stepped s.places (step t s.places (step_of c))
  unfolding step_call reading
  answers_step s c r p = rw e at p

  grants_answer : (s : State) (c : Step) (s' : List ℕ) → step t s.places (step_of c) ≡ rules.Granted s' → MayAnswer b s c (Ok (record { places = s' }))
  unfolding step_call reading stepped left
  grants_answer s c s' h = rw (e, h)

  play_runs : (s : State) (cs : List Step) (s' : State) → Plays b s cs s' → run t s.places (steps_of cs) ≡ rules.Granted s'.places
  unfolding run steps_of
  play_runs s [] s' end = refl
  play_runs s (c ∷ cs) s' (call n f p ps) =
      run_then t s.places (step_of c) n.places (steps_of cs) s'.places
      (granted_answer s _ n (answers_step s c (Ok n) p)) (play_runs n cs s' ps)

  run_plays : (s : State) (cs : List Step) (s' : State) → run t s.places (steps_of cs) ≡ rules.Granted s'.places → Plays b s cs s'
  unfolding run steps_of
  run_plays s [] s' h = let q : s.places ≡ s'.places = cc in rw (sym (places_same s s' q)) end
  run_plays s (c ∷ cs) s' h =
      let w = run_first t s.places (step_of c) (steps_of cs) s'.places h in
      let names = (granted t s.places (step_of c) w.0 w.1).names in
      let next : State = record { places = w.0 } in
      call next (named_can_pass t (accepted b t e) c names) (grants_answer s c w.0 w.1) (run_plays next cs s' w.2)

  pub plays_iff_run : (s : State) (cs : List Step) (s' : State) → Plays b s cs s' ↔ (run t s.places (steps_of cs) ≡ rules.Granted s'.places)
  plays_iff_run s cs s' = (play_runs s cs s', run_plays s cs s')

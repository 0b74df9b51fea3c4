-- A fault is known by its number and place, so what tells these tells the fault.
-- Assumes nothing.
use Prim.Native.Nat.{ℕ, ◌+◌, ◌≤◌}
use mathlib.Core.Path.{◌≡◌, refl, sym, ◌∙◌, ap}
use mathlib.Core.Bool.{cond}
use native.Mathlib.Omega.{arith}
use lib.Dec.{eqb}
use denote.Enum.Declared.{tag_of}
use Rattle.table.specs.contracts.refusals.Refusal.{the_type}
use Rattle.table.specs.declared.refusals.Fault.{Fault}
use Rattle.table.specs.declared.refusals.Refusal.{Refusal}
use Rattle.table.specs.declared.refusals.Refusal.TheVariants.{Short, Form, Count, Parent, Kind, Provider, Covered, Task, Resource, LockSet, Leftover, Room, NoThresholds, State, Name, Phase, Processor, Held}
use Rattle.table.specs.Answers.{numbered, number}

-- The refusal with number n.
unfoldable pub refusal_of : ℕ → Refusal
refusal_of n =
    cond (eqb n 1) Short
    (cond (eqb n 2) Form
    (cond (eqb n 3) Count
    (cond (eqb n 4) Parent
    (cond (eqb n 5) Kind
    (cond (eqb n 6) Provider
    (cond (eqb n 7) Covered
    (cond (eqb n 8) Task
    (cond (eqb n 9) Resource
    (cond (eqb n 10) LockSet
    (cond (eqb n 11) Leftover
    (cond (eqb n 12) Room
    (cond (eqb n 13) NoThresholds
    (cond (eqb n 14) State
    (cond (eqb n 15) Name
    (cond (eqb n 16) Phase
    (cond (eqb n 17) Processor
    Held))))))))))))))))

pub refusal_back : (r : Refusal) → refusal_of (numbered r) ≡ r
unfolding refusal_of numbered
refusal_back Short = refl
refusal_back Form = refl
refusal_back Count = refl
refusal_back Parent = refl
refusal_back Kind = refl
refusal_back Provider = refl
refusal_back Covered = refl
refusal_back Task = refl
refusal_back Resource = refl
refusal_back LockSet = refl
refusal_back Leftover = refl
refusal_back Room = refl
refusal_back NoThresholds = refl
refusal_back State = refl
refusal_back Name = refl
refusal_back Phase = refl
refusal_back Processor = refl
refusal_back Held = refl

-- The fault with number n and place p.
unfoldable pub fault_of : ℕ → ℕ → Fault
fault_of n p = record { refusal = refusal_of n; place = p }

pub fault_back : (f : Fault) → fault_of (number f) f.place ≡ f
unfolding fault_of number
fault_back f = ap (λ (x : Refusal). record { refusal = x; place = f.place }) (refusal_back f.refusal)

-- Two faults with one number and one place are the same.
pub fault_same : (f g : Fault) → number f ≡ number g → f.place ≡ g.place → f ≡ g
fault_same f g n p = sym (fault_back f) ∙ rw (n, p) (fault_back g)

-- What the code computes is the number.
pub tag_numbered : (r : Refusal) → tag_of the_type r + 1 ≡ numbered r
unfolding numbered
tag_numbered Short = refl
tag_numbered Form = refl
tag_numbered Count = refl
tag_numbered Parent = refl
tag_numbered Kind = refl
tag_numbered Provider = refl
tag_numbered Covered = refl
tag_numbered Task = refl
tag_numbered Resource = refl
tag_numbered LockSet = refl
tag_numbered Leftover = refl
tag_numbered Room = refl
tag_numbered NoThresholds = refl
tag_numbered State = refl
tag_numbered Name = refl
tag_numbered Phase = refl
tag_numbered Processor = refl
tag_numbered Held = refl

-- There are eighteen numbers.
numbered_small : (r : Refusal) → numbered r ≤ 18
unfolding numbered
numbered_small Short = omega arith
numbered_small Form = omega arith
numbered_small Count = omega arith
numbered_small Parent = omega arith
numbered_small Kind = omega arith
numbered_small Provider = omega arith
numbered_small Covered = omega arith
numbered_small Task = omega arith
numbered_small Resource = omega arith
numbered_small LockSet = omega arith
numbered_small Leftover = omega arith
numbered_small Room = omega arith
numbered_small NoThresholds = omega arith
numbered_small State = omega arith
numbered_small Name = omega arith
numbered_small Phase = omega arith
numbered_small Processor = omega arith
numbered_small Held = omega arith

pub number_small : (f : Fault) → number f ≤ 18
unfolding number
number_small f = numbered_small f.refusal

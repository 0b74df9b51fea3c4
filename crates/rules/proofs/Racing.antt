-- The race test as facts; and two tasks that meet in a resource are reported: the one that stepped later is over the other, and that is what
-- the race test asks.
-- Assumes nothing.
use Prim.Native.Nat.{ℕ, ◌≤◌}
use mathlib.Core.Path.{◌≡◌, sym, ◌∙◌}
use mathlib.Core.Logic.{◌≢◌, ◌⊎◌, inl, inr}
use mathlib.Core.Bool.{Bool, true, false, not, ◌&&◌}
use mathlib.Core.List.{List}
use native.Mathlib.Decide.{dec_le}
use native.Mathlib.Omega.{arith}
use lib.Dec.{eqb}
use borrow.Author.Tests.{eqb-true, eqb-false, eq-eqb, ne_eqb}
use Rattle.rules.specs.Table.{Table}
use Rattle.rules.specs.Preemption.{may_preempt}
use Rattle.rules.specs.Locks.{masked, blocked}
use Rattle.rules.specs.Races.{race}
use Rattle.rules.specs.Machine.{inside}
use Rattle.rules.specs.Runs.{Meet, Reported}
use Rattle.rules.proofs.Bools.{and_left, and_right, not_true}
use Rattle.rules.proofs.Lists.{races_are}
use Rattle.rules.proofs.States.{inside_access}
use Rattle.rules.proofs.Over.{Over, held_inside}
use Rattle.rules.proofs.Invariants.{Kept}

-- What the race test says.
pub record Racing (t : Table) (i j : ℕ) : Type 0 where
  pub different : t.task_of i ≢ t.task_of j
  pub shared : t.resource_of i ≡ t.resource_of j
  pub preempts : may_preempt t.tree (t.task_of j) (t.task_of i) ≡ true
  pub unmasked : masked t (t.lock_set i) (t.task_of j) ≡ false
  pub unshared : blocked t (t.lock_set i) (t.lock_set j) ≡ false

pub race_says : (t : Table) (i j : ℕ) → race t i j ≡ true → Racing t i j
unfolding race
race_says t i j e =
    let abcd = and_left _ _ e in
    let abc = and_left _ _ abcd in
    let ab = and_left _ _ abc in
    record {
      different = eqb-false _ _ (not_true _ (and_left _ _ ab));
      shared = eqb-true _ _ (and_right a _ ab);
      preempts = and_right (a && b) _ abc;
      unmasked = not_true _ (and_right (a && b && c) _ abcd);
      unshared = not_true _ (and_right (a && b && c && d) _ e);
    }
  where
    a : Bool
    a = not (eqb (t.task_of i) (t.task_of j))

    b : Bool
    b = eqb (t.resource_of i) (t.resource_of j)

    c : Bool
    c = may_preempt t.tree (t.task_of j) (t.task_of i)

    d : Bool
    d = not (masked t (t.lock_set i) (t.task_of j))

race_from : (t : Table) (i j : ℕ) → Racing t i j → race t i j ≡ true
unfolding race
race_from t i j r = rw (ne_eqb _ _ r.different, eq-eqb _ _ r.shared, r.preempts, r.unmasked, r.unshared)

-- Where the task of j, inside j, is over the task of i, inside i, and the resources are equal, (i, j) is a race.
over_race : (t : Table) (i j : ℕ) → t.task_of i ≢ t.task_of j → t.resource_of i ≡ t.resource_of j
    → Over t (t.task_of j) (inside j) (t.task_of i) (inside i) → race t i j ≡ true
over_race t i j n r o =
    race_from t i j
    (record {
      different = n;
      shared = r;
      preempts = o.takes.preempts;
      unmasked = rw (held_inside t i) at o.takes.unmasked;
      unshared = rw (held_inside t i, held_inside t j) at o.unshared;
    })

module _ (t : Table) (s : List ℕ) (k : Kept t s) where
  -- Two that meet, the one that stepped earlier named first.
  later_reported : (m : Meet t s) → k.ordered.time m.one ≤ k.ordered.time m.other → Reported t m.i m.j
  later_reported m l =
      let one = inside_access t s k.formed m.one m.i m.one_inside in
      let other = inside_access t s k.formed m.other m.j m.other_inside in
      let o = k.ordered.over m.one m.other m.different (omega (arith, m.one_inside)) (omega (arith, m.other_inside)) l in
      (races_are t m.i m.j).1 (
        one.0,
        other.0,
        over_race t m.i m.j (λ q. m.different (sym one.1 ∙ q ∙ other.1)) m.same_resource
            (rw (one.1, other.1) (rw (m.one_inside, m.other_inside) at o)),
      )

  -- Two that meet are reported in one order or the other.
  pub meet_reported : (m : Meet t s) → Reported t m.i m.j ⊎ Reported t m.j m.i
  meet_reported m = side (dec_le (k.ordered.time m.one) (k.ordered.time m.other))
    where
      turned : Meet t s
      turned =
          record {
            one = m.other;
            other = m.one;
            different = λ q. m.different (sym q);
            i = m.j;
            j = m.i;
            one_inside = m.other_inside;
            other_inside = m.one_inside;
            same_resource = sym m.same_resource;
          }

      side : Dec (k.ordered.time m.one ≤ k.ordered.time m.other) → Reported t m.i m.j ⊎ Reported t m.j m.i
      side (yes l) = inl (later_reported m l)
      side (no l) = inr (later_reported turned (omega arith))

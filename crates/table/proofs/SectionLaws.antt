-- A section is a count and then its records, and is refused by the first that has a fault. These laws say so of the code's answers: the count
-- stops it, a record stops it after those before it passed, or all pass.
-- Assumes nothing.
use Prim.Native.Nat.{ℕ, zero, suc, ◌+◌, ◌*◌, ◌≤◌, ◌<◌}
use mathlib.Core.Path.{◌≡◌, refl, sym, ap}
use mathlib.Core.List.{List}
use native.Mathlib.Decide.{ℕ_discrete, dec_le}
use native.Mathlib.Numerals.{add-one}
use native.Mathlib.Omega.{arith}
use lib.ListN.{length}
use borrow.Author.Tests.{le-leb, lt-leb}
use Rattle.std.specs.Prelude.{Ok, Err}
use Rattle.rules.specs.Reading as reading
use Rattle.rules.specs.Reading.{Counts, byte, nodes_at, locks_at, resources_at, accesses_at, max_resources, counts_of, ◌and_then◌, each, due, unless, count_check, resource_check, resource_section}
use Rattle.rules.proofs.Reading.{then_left, due_fine}
use Rattle.table.specs.declared.refusals.Fault.{Fault}
use Rattle.table.specs.Answers.{number, checked}

-- The check that a code's answer stands for.
module _ (k : reading.Check) where
  pub found : (f : Fault) → checked (Err f) ≡ k → k ≡ reading.Fault (number f) f.place
  unfolding checked
  found f e = sym e

  pub passes : (u : Unit {0}) → checked (Ok u) ≡ k → k ≡ reading.Fine
  unfolding checked
  passes u e = sym e

-- A fault among the records before i, or at i, is the first of them all.
each_stops : (n i m p : ℕ) (f : ℕ → reading.Check) → i < n → each i f ≡ reading.Fine → f i ≡ reading.Fault m p → each n f ≡ reading.Fault m p
unfolding each ◌and_then◌
each_stops zero i m p f h e q = absurd (omega arith)
each_stops (suc n) i m p f h e q = side (ℕ_discrete i n) (each_stops n i m p f)
  where
    side : Dec (i ≡ n) → (i < n → each i f ≡ reading.Fine → f i ≡ reading.Fault m p → each n f ≡ reading.Fault m p) → (each n f and_then f n) ≡ reading.Fault m p
    side (yes z) g = rw (← z, e, q)
    side (no z) g = rw (g (omega arith) e q)

pub each_goes : (i : ℕ) (f : ℕ → reading.Check) → each i f ≡ reading.Fine → f i ≡ reading.Fine → each (i + 1) f ≡ reading.Fine
unfolding each ◌and_then◌
each_goes i f e q = rw (add-one i, e, q)

pub each_none : (f : ℕ → reading.Check) → each 0 f ≡ reading.Fine
unfolding each
each_none f = refl

-- What the code answers for a section of the count's check k and n records f.
module _ (k : reading.Check) (n : ℕ) (f : ℕ → reading.Check) where
  pub count_stops : (x : Fault) → checked (Err x) ≡ k → checked (Err x) ≡ (k and_then each n f)
  unfolding checked ◌and_then◌
  count_stops x e = rw (← e)

  pub record_stops :
      (i : ℕ) (u : Unit {0}) (x : Fault) → checked (Ok u) ≡ k → i < n → each i f ≡ reading.Fine → checked (Err x) ≡ f i
      → checked (Err x) ≡ (k and_then each n f)
  unfolding checked ◌and_then◌
  record_stops i u x e h p d = rw (passes k u e, each_stops n i (number x) x.place f h p (found (f i) x d))

  pub all_pass : (u v : Unit {0}) → checked (Ok u) ≡ k → each n f ≡ reading.Fine → checked (Ok v) ≡ (k and_then each n f)
  unfolding checked ◌and_then◌
  all_pass u v e p = rw (passes k u e, p)

-- Records of two bytes with no field to test are complete when the last one is.
pub each_due : (b : List ℕ) (from n : ℕ) → from ≤ length b → each n (λ r. due b (from + r * 2 + 2)) ≡ due b (from + n * 2)
unfolding each ◌and_then◌ due unless
each_due b from zero h = rw (le-leb (from + 0 * 2) (length b) (omega arith))
each_due b from (suc n) h = rw (each_due b from n h) (side (dec_le (from + n * 2) (length b)))
  where
    side : Dec (from + n * 2 ≤ length b) → (due b (from + n * 2) and_then due b (from + n * 2 + 2)) ≡ due b (from + suc n * 2)
    side (yes l) = (unfold ◌and_then◌ due unless in rw (le-leb (from + n * 2) (length b) l) (ap (due b) (omega arith)))
    side (no l) = (unfold ◌and_then◌ due unless in rw (lt-leb (from + n * 2) (length b) (omega arith), lt-leb (from + suc n * 2) (length b) (omega arith)))

-- The counts, each read where those before it put it.
pub counts_are :
    (b : List ℕ) (n k r a : ℕ)
    → n ≡ byte b nodes_at → k ≡ byte b (locks_at n) → r ≡ byte b (resources_at n k) → a ≡ byte b (accesses_at n k r)
    → record { nodes = n; locks = k; resources = r; accesses = a } ≡ counts_of b
unfolding counts_of
counts_are b n k r a en ek er ea = rw (← en, ← ek, ← er, ← ea)

-- The resources' section, by its last record.
module _ (b : List ℕ) (c : Counts) (u : Unit {0}) (e : checked (Ok u) ≡ count_check b (resources_at c.nodes c.locks) 0 max_resources) where
  resources_due : each c.resources (resource_check c b) ≡ due b (accesses_at c.nodes c.locks c.resources)
  unfolding resource_check count_check
  resources_due =
      each_due b (resources_at c.nodes c.locks + 1) c.resources (due_fine b _ (then_left _ _ (passes _ u e)))

  pub resources_short : length b < accesses_at c.nodes c.locks c.resources → reading.Fault 1 (length b) ≡ resource_section c b
  unfolding resource_section
  resources_short h = rw (passes _ u e, resources_due) (unfold due unless ◌and_then◌ in rw (lt-leb _ _ h))

  pub resources_pass : accesses_at c.nodes c.locks c.resources ≤ length b → reading.Fine ≡ resource_section c b
  unfolding resource_section
  resources_pass h = rw (passes _ u e, resources_due) (unfold due unless ◌and_then◌ in rw (le-leb _ _ h))

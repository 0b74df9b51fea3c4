-- What the others leave to task x: one that does not yield is enough to keep the processor; and what is left tells which it was.
-- Assumes nothing.
use Prim.Native.Nat.{ℕ, ◌+◌, ◌<◌}
use mathlib.Core.Path.{◌≡◌, refl, ap, ◌∙◌}
use mathlib.Core.Bool.{Bool, true, false}
use mathlib.Core.List.{List}
use native.Mathlib.Numerals.{add-one}
use lib.Bits.{bit_or}
use Rattle.rules.specs.Bounded.{all_below}
use Rattle.rules.specs.Table.{Table}
use Rattle.rules.specs.Machine.{place, may_take}
use Rattle.std.specs.Prelude.{None, Some}
use Rattle.machine.specs.OtherTasks.{yields, adds, held_below, held_by_others, leaves}
use Rattle.machine.proofs.AllTested.{failed, all}

pub kept : (b : Bool) (l : ℕ) → None ≡ leaves b l → b ≡ false
unfolding leaves
kept true l e = cc
kept false l e = refl

pub yielded : (b : Bool) (l : ℕ) {m : ℕ} → Some m ≡ leaves b l → (b ≡ true) × (m ≡ l)
unfolding leaves
yielded true l e = (refl, cc)
yielded false l e = (cc, cc)

module _ (t : Table) (s : List ℕ) (x n : ℕ) where
  -- The tasks below n hold l, and task n adds what it holds.
  pub one_more_holds : (l m : ℕ) → l ≡ held_below n t s x → m ≡ bit_or l (adds t x n (place s n)) → m ≡ held_below (n + 1) t s x
  unfolding held_below
  one_more_holds l m e q = rw (add-one n, ← e) q

  pub one_keeps : n < t.tree.nodes → yields t x n (place s n) ≡ false → None ≡ leaves (may_take t s x) (held_by_others t s x)
  unfolding may_take leaves
  one_keeps h q = rw (failed t.tree.nodes n (λ k. yields t x k (place s k)) h q)

  pub all_yield : (l : ℕ) → n ≡ t.tree.nodes → all_below n (λ k. yields t x k (place s k)) ≡ true → l ≡ held_below n t s x
      → Some l ≡ leaves (may_take t s x) (held_by_others t s x)
  unfolding may_take held_by_others leaves
  all_yield l z q e = rw (all t.tree.nodes n (λ k. yields t x k (place s k)) z q) (ap Some (e ∙ ap (λ (m : ℕ). held_below m t s x) z))

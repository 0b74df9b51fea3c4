-- The empty set shares no lock with another.
-- Assumes nothing.
use Prim.Native.Nat.{ℕ, zero, suc}
use mathlib.Core.Path.{◌≡◌, refl}
use mathlib.Core.Bool.{Bool, true, false, ◌&&◌}
use lib.Dec.{eqb}
use Rattle.rules.specs.Bounded.{some_below}
use Rattle.rules.specs.Table.{Table, blocking}
use Rattle.rules.specs.Locks.{in_set, blocked}
use Rattle.rules.proofs.Unions.{has_zero}

no_part : (a b : Bool) → (a && false && b) ≡ false
no_part true b = refl
no_part false b = refl

none_below : (n : ℕ) (t : Table) (r : ℕ) → some_below n (λ k. in_set k r && in_set k 0 && eqb (t.lock_kind k) blocking) ≡ false
unfolding some_below
none_below zero t r = refl
none_below (suc n) t r = rw (none_below n t r, has_zero n) (no_part (in_set n r) (eqb (t.lock_kind n) blocking))

pub empty_free : (t : Table) (r : ℕ) → blocked t r 0 ≡ false
unfolding blocked
empty_free t r = none_below t.locks t r

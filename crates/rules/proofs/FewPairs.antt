-- A list of pairs has at most one for each first and second number, and two bytes for each; so an accepted table has few races and illegal pairs.
-- Assumes nothing.
use Prim.Native.Nat.{ℕ, zero, suc, ◌*◌, ◌≤◌}
use mathlib.Core.Bool.{Bool, true, false, cond}
use mathlib.Core.Path.{◌≡◌, refl}
use mathlib.Core.List.{List, [], ◌∷◌}
use native.Mathlib.Nat.{suc-mul, mul-le-mul}
use native.Mathlib.Omega.{arith}
use lib.ListN.{length, length-append}
use Rattle.rules.specs.Bounded.{Pair, row, pairs, bytes_of}
use Rattle.rules.specs.Table.{Table}
use Rattle.rules.specs.Accepted.{Accepted}
use Rattle.rules.specs.Races.{race, illegal, races, illegals}

pub row_few : (p : ℕ → ℕ → Bool) (i m : ℕ) → length (row p i m) ≤ m
unfolding row
row_few p i zero = omega arith
row_few p i (suc m) = rw length-append (omega (arith, row_few p i m, last (p i m)))
  where
    last : (b : Bool) → length {A = Pair} (cond b (record { one = i; two = m } ∷ []) []) ≤ 1
    last true = omega arith
    last false = omega arith

pub pairs_few : (p : ℕ → ℕ → Bool) (n m : ℕ) → length (pairs p n m) ≤ n * m
unfolding pairs
pairs_few p zero m = omega arith
pairs_few p (suc n) m = rw length-append (omega (arith, pairs_few p n m, row_few p n m, suc-mul n m))

pub bytes_length : (ps : List Pair) → length (bytes_of ps) ≡ 2 * length ps
unfolding bytes_of
bytes_length [] = refl
bytes_length (p ∷ ps) = omega (arith, bytes_length ps)

pub races_few : (t : Table) → Accepted t → length (races t) ≤ 16384
unfolding races
races_few t a = omega (arith, pairs_few (race t) t.accesses t.accesses, mul-le-mul a.few_accesses a.few_accesses)

pub illegals_few : (t : Table) → Accepted t → length (illegals t) ≤ 4096
unfolding illegals
illegals_few t a = omega (arith, pairs_few (illegal t) t.accesses t.locks, mul-le-mul a.few_accesses a.few_locks)

-- A loop that tests each number below n: all before i passed, and one that fails is enough.
-- Assumes nothing.
use Prim.Native.Nat.{ℕ, zero, suc, ◌+◌, ◌<◌}
use mathlib.Core.Path.{◌≡◌, refl}
use mathlib.Core.Bool.{Bool, true, false, ◌&&◌}
use native.Mathlib.Numerals.{add-one}
use native.Mathlib.Decide.{ℕ_discrete}
use native.Mathlib.Omega.{arith}
use Rattle.rules.specs.Bounded.{all_below}

pub all_yet : (p : ℕ → Bool) → all_below 0 p ≡ true
unfolding all_below
all_yet p = refl

pub all_here : (i : ℕ) (p : ℕ → Bool) → all_below i p ≡ true → p i ≡ true → all_below (i + 1) p ≡ true
unfolding all_below
all_here i p e q = rw (add-one i, e, q)

and_fails : (a : Bool) → (a && false) ≡ false
and_fails true = refl
and_fails false = refl

pub failed : (n i : ℕ) (p : ℕ → Bool) → i < n → p i ≡ false → all_below n p ≡ false
unfolding all_below
failed zero i p h q = absurd (omega arith)
failed (suc n) i p h q = side (ℕ_discrete i n) (failed n i p)
  where
    side : Dec (i ≡ n) → (i < n → p i ≡ false → all_below n p ≡ false) → (all_below n p && p n) ≡ false
    side (yes z) g = rw (← z, q) (and_fails (all_below i p))
    side (no z) g = rw (g (omega arith) q)

pub all : (n i : ℕ) (p : ℕ → Bool) → i ≡ n → all_below i p ≡ true → all_below n p ≡ true
all n i p z e = rw (← z) e

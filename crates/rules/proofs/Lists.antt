-- The race list and the illegal list: each is in order, has each pair once, and has exactly the pairs that pass its test. Both lists are
-- `pairs` of a test, so each fact is proved of `pairs`.
-- Assumes nothing.
use Prim.Native.Nat.{ℕ, zero, suc, ◌<◌}
use mathlib.Core.Path.{◌≡◌, refl, ap}
use mathlib.Core.Logic.{◌↔◌, ◌⊎◌, inl, inr}
use mathlib.Core.Bool.{Bool, true, false, cond}
use mathlib.Core.List.Memᴰ
use mathlib.Core.List.{List, [], ◌∷◌, ◌++◌, Memᴰ}
use native.Mathlib.Omega.{arith}
use Rattle.rules.specs.Bounded.{Pair, row, pairs}
use Rattle.rules.specs.Order.{Earlier, Rising}
use Rattle.rules.specs.Table.{Table}
use Rattle.rules.specs.Races.{race, illegal, races, illegals}
use Rattle.rules.proofs.Bounded.{row_at, pairs_at, pairs_in}

-- Two lists in order, all of the first before all of the second, are in order one after the other.
append_rising : (a b : List Pair) → Rising a → Rising b → ((p q : Pair) → Memᴰ p a → Memᴰ q b → Earlier p q)
    → Rising (a ++ b)
append_rising [] b ra rb before = rb
append_rising (p ∷ a) b ra rb before =
    (λ q m. side q (Memᴰ.append_cases a m), append_rising a b ra.1 rb (λ x y mx my. before x y (Memᴰ.tail mx) my))
  where
    side : (q : Pair) → Memᴰ q a ⊎ Memᴰ q b → Earlier p q
    side q (inl m) = ra.0 q m
    side q (inr m) = before p q (Memᴰ.head refl) m

-- A row rises by its second numbers.
row_rising : (p : ℕ → ℕ → Bool) (i m : ℕ) → Rising (row p i m)
unfolding row
row_rising p i zero = tt
row_rising p i (suc m) =
    append_rising (row p i m) _ (row_rising p i m) (alone (p i m)) (λ x y mx my. inr (side x y (row_at p i m x mx) (p i m) my))
  where
    alone : (b : Bool) → Rising (cond b (record { one = i; two = m } ∷ []) [])
    alone true = (λ q h. absurd (Memᴰ.not-nil h), tt)
    alone false = tt

    side : (x y : Pair) → (x.one ≡ i) × (x.two < m) × (p x.one x.two ≡ true) → (b : Bool)
        → Memᴰ y (cond b (record { one = i; two = m } ∷ []) []) → (x.one ≡ y.one) × (x.two < y.two)
    side x y h true k =
        let e = Memᴰ.eq_of_singleton k in
        let a : y.one ≡ i = ap (λ (z : Pair). z.one) e in
        let b : y.two ≡ m = ap (λ (z : Pair). z.two) e in
        omega arith
    side x y h false k = absurd (Memᴰ.not-nil k)

-- The rows rise by their first number.
pub pairs_rising : (p : ℕ → ℕ → Bool) (n m : ℕ) → Rising (pairs p n m)
unfolding pairs
pairs_rising p zero m = tt
pairs_rising p (suc n) m =
    append_rising (pairs p n m) (row p n m) (pairs_rising p n m) (row_rising p n m)
    (λ x y mx my. inl (omega (arith, pairs_at p n m x mx, row_at p n m y my)))

-- A pair stands in the list exactly when it is below the bounds and passes.
pub pairs_are : (p : ℕ → ℕ → Bool) (n m i j : ℕ)
    → Memᴰ (record { one = i; two = j }) (pairs p n m) ↔ ((i < n) × (j < m) × (p i j ≡ true))
pairs_are p n m i j = (pairs_at p n m _, λ h. pairs_in p n m i j h.0 h.1 h.2)

module _ (t : Table) where
  pub races_rising : Rising (races t)
  unfolding races
  races_rising = pairs_rising (race t) t.accesses t.accesses

  pub illegals_rising : Rising (illegals t)
  unfolding illegals
  illegals_rising = pairs_rising (illegal t) t.accesses t.locks

  pub races_are : (i j : ℕ)
      → Memᴰ (record { one = i; two = j }) (races t) ↔ ((i < t.accesses) × (j < t.accesses) × (race t i j ≡ true))
  unfolding races
  races_are = pairs_are (race t) t.accesses t.accesses

  pub illegals_are : (i k : ℕ)
      → Memᴰ (record { one = i; two = k }) (illegals t) ↔ ((i < t.accesses) × (k < t.locks) × (illegal t i k ≡ true))
  unfolding illegals
  illegals_are = pairs_are (illegal t) t.accesses t.locks

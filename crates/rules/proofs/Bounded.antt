-- What the tests over the numbers below a bound say, and which pairs stand in a list of pairs.
-- Assumes nothing.
use Prim.Native.Nat.{ℕ, zero, suc, ◌<◌}
use mathlib.Core.Path.{◌≡◌, refl, ap}
use mathlib.Core.Logic.{◌⊎◌, inl, inr}
use mathlib.Core.Bool.{Bool, true, false, cond, false≢true}
use mathlib.Core.List.Memᴰ
use mathlib.Core.List.{[], ◌∷◌, ◌++◌, Memᴰ}
use native.Mathlib.Nat.{not-suc-le-zero}
use native.Mathlib.Decide.{ℕ_discrete}
use native.Mathlib.Omega.{arith}
use Rattle.rules.specs.Bounded.{all_below, some_below, Pair, row, pairs}
use Rattle.rules.proofs.Bools.{bool, and_left, and_right, and_both, or_cases}

pub all_at : (n : ℕ) (p : ℕ → Bool) → all_below n p ≡ true → (k : ℕ) → k < n → p k ≡ true
unfolding all_below
all_at zero p e k h = absurd (not-suc-le-zero h)
all_at (suc n) p e k h = side (ℕ_discrete k n) (all_at n p (and_left _ _ e) k)
  where
    side : Dec (k ≡ n) → (k < n → p k ≡ true) → p k ≡ true
    side (yes q) f = rw q (and_right (all_below n p) (p n) e)
    side (no q) f = f (omega arith)

pub all_from : (n : ℕ) (p : ℕ → Bool) → ((k : ℕ) → k < n → p k ≡ true) → all_below n p ≡ true
unfolding all_below
all_from zero p f = refl
all_from (suc n) p f = and_both (all_below n p) (p n) (all_from n p (λ k h. f k (omega arith))) (f n (omega arith))

pub some_at : (n : ℕ) (p : ℕ → Bool) → some_below n p ≡ true → (k : ℕ) × (k < n) × (p k ≡ true)
unfolding some_below
some_at zero p e = absurd (false≢true e)
some_at (suc n) p e = side (or_cases (some_below n p) (p n) e) (some_at n p)
  where
    side : (some_below n p ≡ true) ⊎ (p n ≡ true) → (some_below n p ≡ true → (k : ℕ) × (k < n) × (p k ≡ true)) → (k : ℕ) × (k < suc n) × (p k ≡ true)
    side (inl e) f = let r = f e in (r.0, omega arith, r.2)
    side (inr e) f = (n, omega arith, e)

pub some_none : (n : ℕ) (p : ℕ → Bool) → some_below n p ≡ false → (k : ℕ) → k < n → p k ≡ false
unfolding some_below
some_none zero p e k h = absurd (not-suc-le-zero h)
some_none (suc n) p e k h = side (ℕ_discrete k n) (bool (some_below n p)) (some_none n p)
  where
    side : Dec (k ≡ n) → (some_below n p ≡ true) ⊎ (some_below n p ≡ false) → (some_below n p ≡ false → (k : ℕ) → k < n → p k ≡ false) → p k ≡ false
    side d (inl t) f = let z : true ≡ false = (rw t at e) in cc
    side (yes q) (inr z) f = rw q (rw z at e)
    side (no q) (inr z) f = f z k (omega arith)

-- A pair of a row has the row's first number, a second one below the bound, and passes.
pub row_at : (p : ℕ → ℕ → Bool) (i m : ℕ) (q : Pair) → Memᴰ q (row p i m) → (q.one ≡ i) × (q.two < m) × (p q.one q.two ≡ true)
unfolding row
row_at p i zero q h = absurd (Memᴰ.not-nil h)
row_at p i (suc m) q h = side (Memᴰ.append_cases (row p i m) h) (row_at p i m q)
  where
    last : (b : Bool) → p i m ≡ b → Memᴰ q (cond b (record { one = i; two = m } ∷ []) []) → (q.one ≡ i) × (q.two < suc m) × (p q.one q.two ≡ true)
    last true e k = let w = Memᴰ.eq_of_singleton k in
        let a : q.one ≡ i = ap (λ (z : Pair). z.one) w in
        let b : q.two ≡ m = ap (λ (z : Pair). z.two) w in
        (a, omega arith, rw (a, b) e)
    last false e k = absurd (Memᴰ.not-nil k)

    side : Memᴰ q (row p i m) ⊎ Memᴰ q (cond (p i m) (record { one = i; two = m } ∷ []) [])
        → (Memᴰ q (row p i m) → (q.one ≡ i) × (q.two < m) × (p q.one q.two ≡ true)) → (q.one ≡ i) × (q.two < suc m) × (p q.one q.two ≡ true)
    side (inl k) f = let r = f k in (r.0, omega arith, r.2)
    side (inr k) f = last (p i m) refl k

pub pairs_at : (p : ℕ → ℕ → Bool) (n m : ℕ) (q : Pair) → Memᴰ q (pairs p n m) → (q.one < n) × (q.two < m) × (p q.one q.two ≡ true)
unfolding pairs
pairs_at p zero m q h = absurd (Memᴰ.not-nil h)
pairs_at p (suc n) m q h = side (Memᴰ.append_cases (pairs p n m) h) (pairs_at p n m q)
  where
    side : Memᴰ q (pairs p n m) ⊎ Memᴰ q (row p n m)
        → (Memᴰ q (pairs p n m) → (q.one < n) × (q.two < m) × (p q.one q.two ≡ true)) → (q.one < suc n) × (q.two < m) × (p q.one q.two ≡ true)
    side (inl k) f = let r = f k in (omega arith, r.1, r.2)
    side (inr k) f = let r = row_at p n m q k in (omega arith, r.1, r.2)

-- A pair below the bounds that passes stands in the list.
pub row_in : (p : ℕ → ℕ → Bool) (i m j : ℕ) → j < m → p i j ≡ true → Memᴰ (record { one = i; two = j }) (row p i m)
unfolding row
row_in p i zero j h e = absurd (not-suc-le-zero h)
row_in p i (suc m) j h e = side (ℕ_discrete j m) (row_in p i m j)
  where
    side : Dec (j ≡ m) → (j < m → p i j ≡ true → Memᴰ (record { one = i; two = j }) (row p i m))
        → Memᴰ (record { one = i; two = j }) (row p i m ++ cond (p i m) (record { one = i; two = m } ∷ []) [])
    side (yes q) f = Memᴰ.append_right (row p i m) (rw (← q, e) (Memᴰ.head refl))
    side (no q) f = Memᴰ.append_left _ (f (omega arith) e)

pub pairs_in : (p : ℕ → ℕ → Bool) (n m i j : ℕ) → i < n → j < m → p i j ≡ true → Memᴰ (record { one = i; two = j }) (pairs p n m)
unfolding pairs
pairs_in p zero m i j h k e = absurd (not-suc-le-zero h)
pairs_in p (suc n) m i j h k e = side (ℕ_discrete i n) (pairs_in p n m i j)
  where
    side : Dec (i ≡ n) → (i < n → j < m → p i j ≡ true → Memᴰ (record { one = i; two = j }) (pairs p n m))
        → Memᴰ (record { one = i; two = j }) (pairs p n m ++ row p n m)
    side (yes q) f = Memᴰ.append_right (pairs p n m) (rw (← q) (row_in p i m j k e))
    side (no q) f = Memᴰ.append_left (row p n m) (f (omega arith) k e)

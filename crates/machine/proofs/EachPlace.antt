-- A test of each place with its number, one after the other, is the test of all places below their count.
-- Assumes nothing.
use Prim.Native.Nat.{ℕ, zero, suc, ◌+◌}
use mathlib.Core.Path.{◌≡◌, refl, sym, ◌∙◌, ap}
use mathlib.Core.Bool.{Bool, true, false, ◌&&◌}
use mathlib.Core.List.{List, [], ◌∷◌}
use native.Mathlib.Omega.{arith}
use lib.ListN.{length, get_or}
use Rattle.std.specs.List.{list_all, enumerate_from}
use Rattle.rules.specs.Bounded.{all_below}

turned : (a : Bool) → (true && a) ≡ (a && true)
turned true = refl
turned false = refl

grouped : (a b c : Bool) → ((a && b) && c) ≡ (a && (b && c))
grouped true b c = refl
grouped false b c = refl

-- The first number may be tested apart, as well as the last.
first_apart : (n : ℕ) (p : ℕ → Bool) → all_below (suc n) p ≡ (p 0 && all_below n (λ k. p (suc k)))
unfolding all_below
first_apart zero p = turned (p 0)
first_apart (suc n) p = ap (λ (b : Bool). b && p (suc n)) (first_apart n p) ∙ grouped (p 0) (all_below n (λ k. p (suc k))) (p (suc n))

-- The places xs, the first of which has number a.
each_from : (q : ℕ → ℕ → Bool) (xs : List ℕ) (a : ℕ) (p : ℕ → Bool) → ((k : ℕ) → q (a + k) (get_or xs k 0) ≡ p k)
    → list_all (λ (w : ℕ × ℕ). q w.0 w.1) (enumerate_from a xs) ≡ all_below (length xs) p
unfolding all_below
each_from q [] a p h = refl
each_from q (x ∷ xs) a p h =
    let here : q a x ≡ p 0 = let z : a + 0 ≡ a = omega arith in rw z at (h 0) in
    let later : (k : ℕ) → q (a + 1 + k) (get_or xs k 0) ≡ p (suc k) = λ k. let z : a + suc k ≡ a + 1 + k = omega arith in rw z at (h (suc k)) in
    rw (here, each_from q xs (a + 1) (λ k. p (suc k)) later) (sym (first_apart (length xs) p))

pub each_place : (q : ℕ → ℕ → Bool) (xs : List ℕ) → list_all (λ (w : ℕ × ℕ). q w.0 w.1) (enumerate_from 0 xs) ≡ all_below (length xs) (λ k. q k (get_or xs k 0))
each_place q xs = each_from q xs 0 _ (λ k. let z : 0 + k ≡ k = omega arith in rw z)

-- What one store into a list of words leaves: bit j, and whose bits are known below j, are known below j + 1.
-- Assumes nothing.
use Prim.Native.Nat.{ℕ, zero, suc, ◌+◌, ◌^◌, ◌<◌}
use mathlib.Core.Path.{◌≡◌, refl, ◌∙◌, sym}
use mathlib.Core.Logic.{◌≢◌}
use mathlib.Core.Bool.{Bool, true, false, ◌&&◌, ◌||◌, cond}
use mathlib.Core.List.{List}
use native.Mathlib.Decide.{ℕ_discrete}
use native.Mathlib.Omega.{arith}
use lib.Dec.{eqb, ltb}
use lib.ListN.{length, get_or, set, replicate}
use lib.Seq.{get_or-set_same, get_or-set_other}
use lib.Bits.{bit_or}
use borrow.Author.Tests.{eq-eqb, ne_eqb, eqb-true, lt-ltb, le-ltb, ltb-true}
use Rattle.rules.specs.Locks.{in_set}
use Rattle.rows.proofs.Bits.{has_or, has_pow, has_zero}

-- Tests that pass together are equal.
pub same_test : (a b : Bool) → (a ≡ true → b ≡ true) → (b ≡ true → a ≡ true) → a ≡ b
same_test true b f g = sym (f refl)
same_test false true f g = g refl
same_test false false f g = refl

-- A word v is added to that at q.
pub added_at : (m : List ℕ) (q v c : ℕ) → q < length m
    → get_or (set m q (bit_or (get_or m q 0) v)) c 0 ≡ cond (eqb q c) (bit_or (get_or m c 0) v) (get_or m c 0)
added_at m q v c h = side (ℕ_discrete c q)
  where
    side : Dec (c ≡ q) → get_or (set m q (bit_or (get_or m q 0) v)) c 0 ≡ cond (eqb q c) (bit_or (get_or m c 0) v) (get_or m c 0)
    side (yes e) = rw (e, eq-eqb q q refl) (get_or-set_same m q (bit_or (get_or m q 0) v) 0 h)
    side (no e) = rw (ne_eqb q c (λ d. e (sym d))) (get_or-set_other m q c (bit_or (get_or m q 0) v) 0 e)

pub below_next : (i k : ℕ) → ltb i (k + 1) ≡ (ltb i k || eqb i k)
below_next i k = side (ℕ_discrete i k)
  where
    other : i ≢ k → ltb i (k + 1) ≡ ltb i k
    other e = same_test (ltb i (k + 1)) (ltb i k) (λ t. lt-ltb i k (omega (arith, ltb-true i (k + 1) t))) (λ t. lt-ltb i (k + 1) (omega (arith, ltb-true i k t)))

    or_false : (a : Bool) → a ≡ (a || false)
    or_false true = refl
    or_false false = refl

    side : Dec (i ≡ k) → ltb i (k + 1) ≡ (ltb i k || eqb i k)
    side (yes e) = rw (lt-ltb i (k + 1) (omega arith), le-ltb i k (omega arith), eq-eqb i k e)
    side (no e) = rw (other e, ne_eqb i k e) (or_false (ltb i k))

-- Bit j is set where d: bits that were right below j are right below j + 1.
pub bit_added : (w i j : ℕ) (d p : Bool) → in_set i w ≡ (ltb i j && p) → (i ≡ j → p ≡ d)
    → in_set i (cond d (bit_or w (2 ^ j)) w) ≡ (ltb i (j + 1) && p)
bit_added w i j d p e f = rw (below_next i j) (side d f ∙ spread (ltb i j) (eqb i j) d p (λ g. f (eqb-true i j g)))
  where
    and_false : (a b : Bool) → (a || (b && false)) ≡ a
    and_false true b = refl
    and_false false true = refl
    and_false false false = refl

    and_true : (b : Bool) → b ≡ (b && true)
    and_true true = refl
    and_true false = refl

    side : (d : Bool) → (i ≡ j → p ≡ d) → in_set i (cond d (bit_or w (2 ^ j)) w) ≡ ((ltb i j && p) || (eqb i j && d))
    side true f = rw (has_or i w (2 ^ j), has_pow i j, e, ← and_true (eqb i j))
    side false f = e ∙ sym (and_false (ltb i j && p) (eqb i j))

    spread : (a n d p : Bool) → (n ≡ true → p ≡ d) → ((a && p) || (n && d)) ≡ ((a || n) && p)
    spread true true d true g = refl
    spread true true d false g = sym (g refl)
    spread true false d true g = refl
    spread true false d false g = refl
    spread false true d p g = sym (g refl)
    spread false false d p g = refl

-- Words that are all 0 have no bit.
pub no_words : (n c j : ℕ) → in_set j (get_or (replicate n 0) c 0) ≡ false
no_words zero c j = has_zero j
no_words (suc n) zero j = has_zero j
no_words (suc n) (suc c) j = no_words n c j

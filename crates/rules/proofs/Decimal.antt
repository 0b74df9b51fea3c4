-- Decimal numbers: the digits of a number say that number, each is a digit, and the first is no 0 unless the number is. The fuel of the
-- definition is no matter: n is enough, since n / 10 is smaller than n.
-- Assumes nothing.
use Prim.Native.Nat.{ℕ, zero, suc, ◌+◌, ◌*◌, ◌-◌, ◌/◌, ◌%◌, ◌^◌, ◌<◌, ◌≤◌}
use mathlib.Core.Path.{◌≡◌, refl, ap, ◌∙◌}
use mathlib.Core.Bool.{cond}
use mathlib.Core.List.{List, [], ◌∷◌, ◌++◌}
use native.Mathlib.Decide.{dec_lt}
use native.Mathlib.Omega.{arith}
use lib.Dec.{ltb}
use lib.ListN.{length, get_or, length-append}
use borrow.Author.Tests.{lt-ltb, le-ltb}
use Rattle.rules.specs.Listing.{digits, decimal}

-- What digits say, after those that said a.
unfoldable pub says : ℕ → List ℕ → ℕ
says a [] = a
says a (d ∷ ds) = says (a * 10 + (d - 48)) ds

-- Fuel that is enough gives the same digits.
enough : (f g n : ℕ) → n ≤ f → n ≤ g → digits f n ≡ digits g n
unfolding digits
enough zero zero n h k = refl
enough zero (suc g) n h k = rw (lt-ltb n 10 (omega arith))
enough (suc f) zero n h k = rw (lt-ltb n 10 (omega arith))
enough (suc f) (suc g) n h k = side (dec_lt n 10) (enough f g (n / 10))
  where
    side : Dec (n < 10) → (n / 10 ≤ f → n / 10 ≤ g → digits f (n / 10) ≡ digits g (n / 10))
        → cond (ltb n 10) [] (digits f (n / 10)) ++ ((48 + n % 10) ∷ []) ≡ cond (ltb n 10) [] (digits g (n / 10)) ++ ((48 + n % 10) ∷ [])
    side (yes l) e = rw (lt-ltb n 10 l)
    side (no l) e = rw (e (omega arith) (omega arith))

-- A number below 10 is its own digit; any other has its last digit after those of its tens.
pub decimal_last : (n : ℕ) → n < 10 → decimal n ≡ (48 + n) ∷ []
unfolding decimal
decimal_last n h = enough n (suc n) n (omega arith) (omega arith) ∙ (unfold digits in rw (lt-ltb n 10 h) (ap (λ (d : ℕ). (48 + d) ∷ []) (omega arith)))

pub decimal_more : (n : ℕ) → 10 ≤ n → decimal n ≡ decimal (n / 10) ++ ((48 + n % 10) ∷ [])
unfolding decimal
decimal_more n h =
    enough n (suc n) n (omega arith) (omega arith)
    ∙ (unfold digits in rw (le-ltb n 10 h) (ap (λ (ds : List ℕ). ds ++ ((48 + n % 10) ∷ [])) (enough n (n / 10) (n / 10) (omega arith) (omega arith))))

-- What holds of numbers below 10, and of any other where it holds of its tens, holds of all.
by_tens : (P : ℕ → Type 0) → ((n : ℕ) → n < 10 → P n) → ((n : ℕ) → 10 ≤ n → P (n / 10) → P n) → (f n : ℕ) → n ≤ f → P n
by_tens P small large zero n h = small n (omega arith)
by_tens P small large (suc f) n h = side (dec_lt n 10) (by_tens P small large f (n / 10))
  where
    side : Dec (n < 10) → (n / 10 ≤ f → P (n / 10)) → P n
    side (yes l) e = small n l
    side (no l) e = large n (omega arith) (e (omega arith))

says_then : (ds : List ℕ) (a d : ℕ) → says a (ds ++ (d ∷ [])) ≡ says a ds * 10 + (d - 48)
unfolding says
says_then [] a d = refl
says_then (e ∷ ds) a d = says_then ds (a * 10 + (e - 48)) d

-- The digits of n say n.
pub decimal_says : (n : ℕ) → says 0 (decimal n) ≡ n
decimal_says n =
    by_tens (λ m. says 0 (decimal m) ≡ m)
    (λ m h. rw (decimal_last m h) (unfold says in omega arith))
    (λ m h e. rw (decimal_more m h, says_then, e) (omega arith))
    n n (omega arith)

-- Each is a digit.
unfoldable pub AllDigits : List ℕ → Type 0
AllDigits [] = Unit {0}
AllDigits (d ∷ ds) = (48 ≤ d) × (d ≤ 57) × AllDigits ds

all_then : (ds : List ℕ) (d : ℕ) → AllDigits ds → 48 ≤ d → d ≤ 57 → AllDigits (ds ++ (d ∷ []))
unfolding AllDigits
all_then [] d a l h = (l, h, tt)
all_then (e ∷ ds) d a l h = (a.0, a.1, all_then ds d a.2 l h)

pub decimal_digits : (n : ℕ) → AllDigits (decimal n)
decimal_digits n =
    by_tens (λ m. AllDigits (decimal m))
    (λ m h. rw (decimal_last m h) (unfold AllDigits in (omega arith, omega arith, tt)))
    (λ m h a. rw (decimal_more m h) (all_then _ _ a (omega arith) (omega arith)))
    n n (omega arith)

-- The first is no 0, unless the number is.
first_then : (ds : List ℕ) (d : ℕ) → 49 ≤ get_or ds 0 0 → 49 ≤ get_or (ds ++ (d ∷ [])) 0 0
first_then [] d h = absurd (omega arith)
first_then (e ∷ ds) d h = h

pub decimal_first : (n : ℕ) → 1 ≤ n → 49 ≤ get_or (decimal n) 0 0
decimal_first n =
    by_tens (λ m. 1 ≤ m → 49 ≤ get_or (decimal m) 0 0)
    (λ m h l. rw (decimal_last m h) (omega arith))
    (λ m h e l. rw (decimal_more m h) (first_then (decimal (m / 10)) _ (e (omega arith))))
    n n (omega arith)

-- A number below 10 to the m, m not 0, has at most m digits.
few_tens : (k m : ℕ) → 10 ≤ k → k < 10 ^ suc m → (j : ℕ) × (m ≡ suc j) × (k / 10 < 10 ^ suc j)
few_tens k zero h l = absurd (omega arith)
few_tens k (suc j) h l = (j, refl, omega arith)

pub decimal_few : (n m : ℕ) → n < 10 ^ suc m → length (decimal n) ≤ suc m
decimal_few n =
    by_tens (λ k. (m : ℕ) → k < 10 ^ suc m → length (decimal k) ≤ suc m)
    (λ k h m l. rw (decimal_last k h) (omega arith))
    (λ k h e m l.
    let t = few_tens k m h l in
    rw (decimal_more k h, length-append, t.1) (omega (arith, e t.0 t.2)))
    n n (omega arith)

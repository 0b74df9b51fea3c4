-- A number's digits, counted, and written one after the other: below 10 its own, else those of its tens and then its last. A number of 64 bits
-- has at most 20.
-- Assumes nothing.
use Prim.Native.Nat.{ℕ, ◌+◌, ◌/◌, ◌%◌, ◌^◌, ◌<◌, ◌≤◌}
use mathlib.Core.Path.{◌≡◌}
use mathlib.Core.List.{List, [], ◌∷◌}
use native.Mathlib.Omega.{arith}
use lib.ListN.{length, length-append}
use Rattle.rules.specs.Listing.{decimal}
use Rattle.rules.proofs.Decimal.{decimal_last, decimal_more, decimal_few}
use Rattle.rows.specs.Writing.{Wrote}
use Rattle.rows.proofs.Written.{next}

pub number_last : {l m : List ℕ} {k n r : ℕ} → n < 10 → Wrote l k ((48 + n % 10) ∷ []) m r → Wrote l k (decimal n) m r
number_last {n = n} h w = let e : n % 10 ≡ n = omega arith in rw (decimal_last n h) (rw e at w)

pub number_more : {l m o : List ℕ} {k n j r : ℕ} → 10 ≤ n → Wrote l k (decimal (n / 10)) m j → Wrote m j ((48 + n % 10) ∷ []) o r → Wrote l k (decimal n) o r
number_more {n = n} h w v = rw (decimal_more n h) (next w v)

pub number_short : {l m : List ℕ} {k n r : ℕ} → n < 10 ^ 20 → Wrote l k (decimal n) m r → r ≤ k + 20
number_short {n = n} h w = omega (arith, w.place, decimal_few n 19 h)

-- One digit below 10, two below 100, and so on.
more_digits : (n : ℕ) → 10 ≤ n → length (decimal n) ≡ length (decimal (n / 10)) + 1
more_digits n h = rw (decimal_more n h, length-append) (omega arith)

pub one_digit : (n : ℕ) → n < 10 → 1 ≡ length (decimal n)
one_digit n h = rw (decimal_last n h)

pub two_digits : (n : ℕ) → 10 ≤ n → n < 100 → 2 ≡ length (decimal n)
two_digits n l h = omega (arith, more_digits n l, one_digit (n / 10) (omega arith))

pub three_digits : (n : ℕ) → 100 ≤ n → n < 1000 → 3 ≡ length (decimal n)
three_digits n l h = omega (arith, more_digits n (omega arith), two_digits (n / 10) (omega arith) (omega arith))

pub four_digits : (n : ℕ) → 1000 ≤ n → n < 10000 → 4 ≡ length (decimal n)
four_digits n l h = omega (arith, more_digits n (omega arith), three_digits (n / 10) (omega arith) (omega arith))

pub five_digits : (n : ℕ) → 10000 ≤ n → n < 100000 → 5 ≡ length (decimal n)
five_digits n l h = omega (arith, more_digits n (omega arith), four_digits (n / 10) (omega arith) (omega arith))

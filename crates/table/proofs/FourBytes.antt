-- The four bytes from p on, high byte first, are the four-byte number at p.
-- Assumes nothing.
use Prim.Native.Nat.{ℕ, ◌+◌, ◌*◌}
use mathlib.Core.Path.{◌≡◌}
use mathlib.Core.List.{List}
use native.Mathlib.Omega.{arith}
use Rattle.rules.specs.Reading.{byte, four_bytes}

pub four : (b : List ℕ) (p q s t r : ℕ) → q ≡ p + 1 → s ≡ p + 2 → t ≡ p + 3
    → r ≡ byte b p * 16777216 + byte b q * 65536 + byte b s * 256 + byte b t → r ≡ four_bytes b p
four b p q s t r eq es et h =
    let z : t ≡ p + 2 + 1 = omega arith in
    omega (arith, rw (eq, es, z) at h)

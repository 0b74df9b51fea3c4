-- The first section by the number of bytes and the first of them: one test after the other.
-- Assumes nothing.
use Prim.Native.Nat.{ℕ, ◌≤◌, ◌<◌}
use mathlib.Core.Path.{◌≡◌, ap}
use native.Mathlib.Omega.{arith}
use mathlib.Core.Logic.{◌≢◌}
use mathlib.Core.List.{List}
use lib.ListN.{length}
use borrow.Author.Tests.{le-leb, lt-leb, eq-eqb, ne_eqb}
use Rattle.rules.specs.Reading.{Fine, Fault, byte, form_section, due, unless, ◌and_then◌}

pub form_short : (b : List ℕ) → length b < 1 → form_section b ≡ Fault 1 0
unfolding form_section due unless ◌and_then◌
form_short b h = let z : length b ≡ 0 = omega arith in rw (lt-leb _ _ h) (ap (Fault 1) z)

pub form_wrong : (b : List ℕ) → 1 ≤ length b → byte b 0 ≢ 1 → form_section b ≡ Fault 2 0
unfolding form_section due unless ◌and_then◌
form_wrong b h q = rw (le-leb _ _ h, ne_eqb _ _ q)

pub form_right : (b : List ℕ) → 1 ≤ length b → byte b 0 ≡ 1 → form_section b ≡ Fine
unfolding form_section due unless ◌and_then◌
form_right b h q = rw (le-leb _ _ h, eq-eqb _ _ q)

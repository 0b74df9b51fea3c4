-- What a reading that finds no fault has tested: each part of the chain is fine, and so is each record of a section.
-- Assumes nothing.
use Prim.Native.Nat.{ℕ, zero, suc, ◌≤◌, ◌<◌}
use mathlib.Core.Path.{◌≡◌, refl}
use mathlib.Core.Bool.{Bool, true, false}
use mathlib.Core.List.{List}
use native.Mathlib.Nat.{not-suc-le-zero}
use native.Mathlib.Decide.{ℕ_discrete}
use native.Mathlib.Omega.{arith}
use lib.ListN.{length}
use borrow.Author.Tests.{leb-true}
use Rattle.rules.specs.Table.{Table}
use Rattle.rules.specs.Reading.{Check, Fine, Fault, ◌and_then◌, unless, each, due, Is, concluded, read, first_fault, table_of}

pub then_left : (a b : Check) → (a and_then b) ≡ Fine → a ≡ Fine
unfolding ◌and_then◌
then_left Fine b e = refl
then_left (Fault n p) b e = e

pub then_right : (a b : Check) → (a and_then b) ≡ Fine → b ≡ Fine
unfolding ◌and_then◌
then_right Fine b e = e
then_right (Fault n p) b e = cc

pub unless_fine : (c : Bool) (n p : ℕ) → unless c n p ≡ Fine → c ≡ true
unfolding unless
unless_fine true n p e = refl
unless_fine false n p e = cc

pub due_fine : (b : List ℕ) (e : ℕ) → due b e ≡ Fine → e ≤ length b
unfolding due
due_fine b e h = leb-true _ _ (unless_fine _ _ _ h)

pub each_fine : (n : ℕ) (f : ℕ → Check) → each n f ≡ Fine → (k : ℕ) → k < n → f k ≡ Fine
unfolding each
each_fine zero f e k h = absurd (not-suc-le-zero h)
each_fine (suc n) f e k h = side (ℕ_discrete k n) (each_fine n f (then_left _ _ e) k)
  where
    side : Dec (k ≡ n) → (k < n → f k ≡ Fine) → f k ≡ Fine
    side (yes q) g = rw q (then_right (each n f) (f n) e)
    side (no q) g = g (omega arith)

-- Bytes that are a table have no fault, and are the table that stands in them.
pub read_fine : (b : List ℕ) (t : Table) → read b ≡ Is t → first_fault b ≡ Fine
unfolding read
read_fine b t e = side (first_fault b) e
  where
    side : (c : Check) → concluded c (table_of b) ≡ Is t → c ≡ Fine
    side Fine e = refl
    side (Fault n p) e = (unfold concluded in cc)

pub read_table : (b : List ℕ) (t : Table) → read b ≡ Is t → t ≡ table_of b
unfolding read concluded
read_table b t e = let q : Is (table_of b) ≡ Is t = (rw (read_fine b t e) at e) in cc

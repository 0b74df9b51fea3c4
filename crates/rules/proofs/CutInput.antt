-- Of input beyond 1,253 bytes one byte more is enough to read: cutting the input after 1,254 bytes changes no answer. A longer input is refused,
-- and refused alike.
-- Assumes nothing.
use Prim.Native.Nat.{ℕ, ◌≤◌}
use mathlib.Core.Path.{◌≡◌, refl}
use mathlib.Core.List.{List}
use native.Mathlib.Decide.{dec_le}
use native.Mathlib.Omega.{arith}
use lib.ListN.{length, take}
use lib.Seq.{take_all, length-take-le, get_or-take}
use borrow.Author.Tests.{leb-true}
use Rattle.rules.specs.Table.{Table}
use Rattle.rules.specs.Reading.{Check, Fine, Fault, counts_of, table_at, table_of, end_at, end_section, first_fault, concluded, Is, read}
use Rattle.rules.proofs.Accepted.{end_fine, accepted}
use Rattle.rules.proofs.Reading.{unless_fine, read_fine, read_table}
use Rattle.rules.specs.Listing.{findings}
use Rattle.rules.proofs.SameStart.{fault_same}

-- The longest table has 1,253 bytes.
pub longest_table : (b : List ℕ) (t : Table) → read b ≡ Is t → length b ≤ 1253
unfolding table_of table_at end_section
longest_table b t e =
    let a = rw (read_table b t e) at (accepted b t e) in
    let l = leb-true (length b) (end_at (counts_of b)) (unless_fine _ _ _ (end_fine b (read_fine b t e))) in
    omega (arith, l, a.tree.few, a.few_locks, a.few_resources, a.few_accesses)

pub cut_input : (b : List ℕ) → read (take 1254 b) ≡ read b
unfolding read
cut_input b = side (dec_le (length b) 1254)
  where
    refused : (k : Check) (t u : Table) → (k ≡ Fine → ⊥) → concluded k t ≡ concluded k u
    refused Fine t u h = absurd (h refl)
    refused (Fault n p) t u h = (unfold concluded in refl)

    side : Dec (length b ≤ 1254) → concluded (first_fault (take 1254 b)) (table_of (take 1254 b)) ≡ concluded (first_fault b) (table_of b)
    side (yes l) = rw (take_all 1254 b l)
    side (no l) =
        rw (fault_same (take 1254 b) b (omega (arith, length-take-le 1254 b (omega arith))) (omega arith) (λ p h. get_or-take 1254 b p 0 h))
        (refused (first_fault b) _ _ (λ e. omega (arith, longest_table b (table_of b) (unfold read concluded in rw e))))

-- The program that reads 1,254 bytes writes what is to be written of the whole input.
pub cut_findings : (b : List ℕ) → findings (take 1254 b) ≡ findings b
unfolding findings
cut_findings b = rw (cut_input b)

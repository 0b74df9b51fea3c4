-- A line is a head and a tail, and how long these are.
-- Assumes nothing.
use Prim.Native.Nat.{ℕ, ◌+◌, ◌<◌, ◌≤◌}
use mathlib.Core.Path.{◌≡◌, refl, sym}
use mathlib.Core.List.{List, [], ◌∷◌, ◌++◌, append_assoc}
use native.Mathlib.Omega.{arith}
use lib.ListN.{length, length-append}
use Rattle.rules.specs.Table.{Table}
use Rattle.rules.specs.Quoted.{codes}
use Rattle.rules.specs.Listing.{decimal, fields, line, race_line, illegal_line}
use Rattle.rules.proofs.Decimal.{decimal_few}
use Rattle.rows.specs.Writing.{Wrote}
use Rattle.lines.specs.declared.Section.{Section}
use Rattle.lines.specs.declared.Section.TheVariants.{Races, Illegals}
use Rattle.lines.specs.Lines.{pair_line, head_of, tail_of}
use Rattle.lines.proofs.BitLines.{pair}

fields_append : (ms ns : List ℕ) → fields (ms ++ ns) ≡ fields ms ++ fields ns
unfolding fields
fields_append [] ns = refl
fields_append (m ∷ ms) ns = rw (fields_append ms ns) (sym (append_assoc (codes " " ++ decimal m) (fields ms) (fields ns)))

-- The numbers before j, and what comes from j on.
split : (word ms : List ℕ) (j : ℕ) (ns : List ℕ) → line word (ms ++ (j ∷ ns)) ≡ (word ++ fields ms ++ codes " ") ++ (decimal j ++ line [] ns)
unfolding line
split word ms j ns = rw (fields_append ms (j ∷ ns)) (unfold fields in simp append_assoc)

pub line_ends : (which : Section) (t : Table) (i j : ℕ) → pair_line which t (pair i j) ≡ head_of which t i ++ tail_of which t j
unfolding pair_line head_of tail_of race_line illegal_line
line_ends Races t i j = split (codes "race") (t.label (t.resource_of i) ∷ i ∷ t.task_of i ∷ []) j (t.task_of j ∷ [])
line_ends Illegals t i j = split (codes "illegal") (i ∷ t.task_of i ∷ []) j []

-- Lengths.
pub race_head_length : (t : Table) (i : ℕ)
    → length (head_of Races t i) ≡ 8 + length (decimal (t.label (t.resource_of i))) + length (decimal i) + length (decimal (t.task_of i))
unfolding head_of fields
race_head_length t i = simp length-append (omega arith)

pub illegal_head_length : (t : Table) (i : ℕ) → length (head_of Illegals t i) ≡ 10 + length (decimal i) + length (decimal (t.task_of i))
unfolding head_of fields
illegal_head_length t i = simp length-append (omega arith)

pub race_tail_length : (t : Table) (j : ℕ) → length (tail_of Races t j) ≡ 2 + length (decimal j) + length (decimal (t.task_of j))
unfolding tail_of line fields
race_tail_length t j = simp length-append (omega arith)

pub illegal_tail_length : (t : Table) (j : ℕ) → length (tail_of Illegals t j) ≡ 1 + length (decimal j)
unfolding tail_of line fields
illegal_tail_length t j = simp length-append (omega arith)

-- A tail fits eight bytes.
pub race_tail_few : (t : Table) (j : ℕ) → j < 128 → t.task_of j < 256 → 2 + length (decimal j) + length (decimal (t.task_of j)) ≤ 8
race_tail_few t j a b = omega (arith, decimal_few j 2 (omega arith), decimal_few (t.task_of j) 2 (omega arith))

-- A head has room for its first and its last eight bytes, and fits 24.
race_head_few : (t : Table) (i : ℕ) → t.label (t.resource_of i) < 65536 → i < 128 → t.task_of i < 256 → length (head_of Races t i) ≤ 24
race_head_few t i a b c =
    omega (
      arith,
      race_head_length t i,
      decimal_few (t.label (t.resource_of i)) 4 (omega arith),
      decimal_few i 2 (omega arith),
      decimal_few (t.task_of i) 2 (omega arith),
    )

illegal_head_few : (t : Table) (i : ℕ) → i < 128 → t.task_of i < 256 → length (head_of Illegals t i) ≤ 24
illegal_head_few t i b c = omega (arith, illegal_head_length t i, decimal_few i 2 (omega arith), decimal_few (t.task_of i) 2 (omega arith))

pub head_few : (which : Section) (t : Table) (i : ℕ) → t.label (t.resource_of i) < 65536 → i < 128 → t.task_of i < 256 → length (head_of which t i) ≤ 24
head_few Races t i a b c = race_head_few t i a b c
head_few Illegals t i a b c = illegal_head_few t i b c

pub race_head_fits : (t : Table) (i : ℕ) {l m : List ℕ} {r : ℕ} → t.label (t.resource_of i) < 65536 → i < 128 → t.task_of i < 256
    → Wrote l 0 (head_of Races t i) m r → Wrote l 0 (head_of Races t i) m r × (8 ≤ r) × (r ≤ 24)
race_head_fits t i a b c w = (w, omega (arith, w.place, race_head_length t i), omega (arith, w.place, race_head_few t i a b c))

pub illegal_head_fits : (t : Table) (i : ℕ) {l m : List ℕ} {r : ℕ} → i < 128 → t.task_of i < 256
    → Wrote l 0 (head_of Illegals t i) m r → Wrote l 0 (head_of Illegals t i) m r × (8 ≤ r) × (r ≤ 24)
illegal_head_fits t i b c w = (w, omega (arith, w.place, illegal_head_length t i), omega (arith, w.place, illegal_head_few t i b c))

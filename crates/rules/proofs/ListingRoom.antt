-- The text of any input is short: a table has at most 16,384 races and 4,096 illegal pairs, and a line has few digits, since accesses, tasks and
-- locks have numbers below 128 and labels are two bytes. So 520,218 bytes of room are always enough.
-- Assumes nothing.
use Prim.Native.Nat.{ℕ, ◌+◌, ◌*◌, ◌<◌, ◌≤◌}
use mathlib.Core.Path.{◌≡◌, refl}
use mathlib.Core.List.{List, [], ◌∷◌, Memᴰ}
use native.Mathlib.Nat.{suc-mul, mul-le-mul}
use native.Mathlib.Omega.{arith}
use lib.ListN.{length, length-append}
use borrow.Author.Tests.{ltb-true}
use Rattle.rules.specs.Bounded.{Pair}
use Rattle.rules.specs.Table.{Table, is_task}
use Rattle.rules.specs.Reading.{Reading, Is, Refused, byte, counts_of, resource_at, table_of, table_at, read}
use Rattle.rules.specs.Accepted.{Accepted}
use Rattle.rules.specs.Races.{race, illegal, races, illegals}
use Rattle.rules.specs.Calls.{reading}
use Rattle.rules.specs.Quoted.{codes}
use Rattle.rules.specs.Listing.{decimal, fields, line, race_line, illegal_line, lines, section, text, listing, refused_line, findings}
use Rattle.rules.proofs.Bools.{and_left}
use Rattle.rules.proofs.Bounded.{pairs_at}
use Rattle.rules.proofs.FewPairs.{races_few, illegals_few}
use Rattle.rules.proofs.Reading.{read_table}
use Rattle.rules.proofs.Accepted.{accepted}
use Rattle.rules.proofs.Decimal.{decimal_few}
use Rattle.rules.proofs.Places.{refusal_within}

-- A number after a space.
field_length : (n : ℕ) (ns : List ℕ) → length (fields (n ∷ ns)) ≡ 1 + length (decimal n) + length (fields ns)
unfolding fields
field_length n ns = rw length-append (omega arith)

no_fields : length (fields []) ≡ 0
unfolding fields
no_fields = refl

line_length : (word ns : List ℕ) → length (line word ns) ≡ length word + length (fields ns) + 1
unfolding line
line_length word ns = simp length-append (omega arith)

race_length : (t : Table) (p : Pair) → t.label (t.resource_of p.one) < 65536
    → p.one < 128 → t.task_of p.one < 128 → p.two < 128 → t.task_of p.two < 128 → length (race_line t p) ≤ 27
unfolding race_line
race_length t p l i x j y =
    rw line_length (simp (field_length, no_fields) (omega (
      arith,
      decimal_few (t.label (t.resource_of p.one)) 4 (omega arith),
      decimal_few p.one 2 (omega arith),
      decimal_few (t.task_of p.one) 2 (omega arith),
      decimal_few p.two 2 (omega arith),
      decimal_few (t.task_of p.two) 2 (omega arith),
    )))

illegal_length : (t : Table) (p : Pair) → p.one < 128 → t.task_of p.one < 128 → p.two < 32 → length (illegal_line t p) ≤ 19
unfolding illegal_line
illegal_length t p i x k =
    rw line_length (simp (field_length, no_fields) (omega (
      arith,
      decimal_few p.one 2 (omega arith),
      decimal_few (t.task_of p.one) 2 (omega arith),
      decimal_few p.two 1 (omega arith),
    )))

refused_length : (n p : ℕ) → n < 100 → p < 10000 → length (refused_line n p) ≤ 19
unfolding refused_line
refused_length n p h l =
    simp (length-append, line_length, field_length, no_fields) (omega (arith, decimal_few n 1 (omega arith), decimal_few p 3 (omega arith)))

-- The lines of pairs, each of at most m bytes.
lines_length : (f : Pair → List ℕ) (m : ℕ) (ps : List Pair) → ((p : Pair) → Memᴰ p ps → length (f p) ≤ m) → length (lines f ps) ≤ length ps * m
unfolding lines
lines_length f m [] h = omega arith
lines_length f m (p ∷ ps) h =
    rw length-append (omega (arith, h p (Memᴰ.head refl), lines_length f m ps (λ q k. h q (Memᴰ.tail k)), suc-mul (length ps) m))

section_length : (word : List ℕ) (f : Pair → List ℕ) (ps : List Pair) (m n : ℕ)
    → length ps ≤ n → n < 100000 → ((p : Pair) → Memᴰ p ps → length (f p) ≤ m) → length (section word f ps) ≤ length word + 7 + n * m
unfolding section
section_length word f ps m n l h k =
    simp (length-append, line_length, field_length, no_fields) (omega (
      arith,
      decimal_few (length ps) 4 (omega arith),
      lines_length f m ps k,
      mul-le-mul {n₁ = length ps} {m₁ = m} {n₂ = n} {m₂ = m} l (omega arith),
    ))

-- The table t that the bytes b are.
module _ (b : List ℕ) (bytes : (p : ℕ) → byte b p < 256) (t : Table) (e : read b ≡ Is t) where
  ok : Accepted t
  ok = accepted b t e

  label_small : (r : ℕ) → t.label r < 65536
  unfolding table_of table_at
  label_small r =
      rw (read_table b t e) (omega (arith, bytes (resource_at (counts_of b) r), bytes (resource_at (counts_of b) r + 1)))

  task_small : (i : ℕ) → i < t.accesses → t.task_of i < 128
  unfolding is_task
  task_small i h = omega (arith, ok.tree.few, ltb-true (t.task_of i) t.tree.nodes (and_left _ _ (ok.tasks i h)))

  races_length : length (section (codes "races") (race_line t) (races t)) ≤ 442380
  unfolding races
  races_length =
      let a = ok.few_accesses in
      section_length (codes "races") (race_line t) _ 27 16384 (races_few t ok) (omega arith)
      (λ p m.
      let q = pairs_at (race t) _ _ p m in
      race_length t p (label_small _) (omega (arith, q.0)) (task_small _ q.0) (omega (arith, q.1)) (task_small _ q.1))

  illegals_length : length (section (codes "illegal") (illegal_line t) (illegals t)) ≤ 77838
  unfolding illegals
  illegals_length =
      let a = ok.few_accesses in
      let k = ok.few_locks in
      section_length (codes "illegal") (illegal_line t) _ 19 4096 (illegals_few t ok) (omega arith)
      (λ p m.
      let q = pairs_at (illegal t) _ _ p m in
      illegal_length t p (omega (arith, q.0)) (task_small _ q.0) (omega (arith, q.1)))

  listing_length : length (listing t) ≤ 520218
  unfolding listing text
  listing_length = rw length-append (omega (arith, races_length, illegals_length))

-- The text of any bytes.
pub findings_length : (b : List ℕ) → ((p : ℕ) → byte b p < 256) → length (findings b) ≤ 520218
unfolding findings
findings_length b bytes = side (read b) refl
  where
    side : (r : Reading) → read b ≡ r → length (reading r refused_line listing) ≤ 520218
    side (Is t) e = (unfold reading in listing_length b bytes t e)
    side (Refused n p) e = let q = refusal_within b n p e in (unfold reading in omega (arith, refused_length n p (omega arith) (omega arith)))

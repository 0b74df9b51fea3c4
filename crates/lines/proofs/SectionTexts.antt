-- A section: the line with the number of its pairs, and then their lines; counted, and written. The two sections are the text.
-- Assumes nothing.
use Prim.Native.Nat.{ℕ, ◌+◌, ◌≤◌, min}
use mathlib.Core.Path.{◌≡◌}
use mathlib.Core.List.{List, [], ◌∷◌, append-nil}
use native.Mathlib.Omega.{arith}
use lib.ListN.{length, length-append}
use Rattle.rules.specs.Bounded.{Pair}
use Rattle.rules.specs.Table.{Table}
use Rattle.rules.specs.Quoted.{codes}
use Rattle.rules.specs.Listing.{decimal, fields, line, lines, section, text}
use Rattle.rows.specs.Writing.{Wrote}
use Rattle.rows.proofs.Written.{next, same_room}
use Rattle.lines.specs.declared.Section.TheVariants.{Races, Illegals}
use Rattle.lines.specs.Lines.{pair_line}
use Rattle.lines.proofs.RowLines.{no_lines}

first_length : (word : List ℕ) (n : ℕ) → length (line word (n ∷ [])) ≡ length word + 2 + length (decimal n)
unfolding line fields
first_length word n = simp length-append (omega arith)

module _ (word : List ℕ) (g : Pair → List ℕ) (ps : List Pair) {n : ℕ} (e : n ≡ length ps) where
  pub section_counted : {d r : ℕ} → d ≡ length (decimal n) → r ≡ length (lines g ps) → length word + 2 + d + r ≡ length (section word g ps)
  unfolding section
  section_counted p q = rw (length-append, ← e, first_length) (omega arith)

  pub none_counted : {d : ℕ} → d ≡ length (decimal n) → n ≡ 0 → length word + 2 + d ≡ length (section word g ps)
  none_counted {d} p z = let s = section_counted {r = 0} p (rw (no_lines g ps e z)) in omega arith

  pub section_wrote : {l m o : List ℕ} {k w r : ℕ} → Wrote l k (line word (n ∷ [])) m w → Wrote m w (lines g ps) o r → Wrote l k (section word g ps) o r
  unfolding section
  section_wrote a b = rw (← e) (next a b)

  pub none_wrote : {l m : List ℕ} {k w : ℕ} → n ≡ 0 → Wrote l k (line word (n ∷ [])) m w → Wrote l k (section word g ps) m w
  unfolding section
  none_wrote z a = rw (no_lines g ps e z, append-nil, ← e) a

  -- After the first line there is room for the others.
  pub lines_left : {l m : List ℕ} {k w : ℕ} (most : ℕ) → k + length (section word g ps) ≤ length l → Wrote l k (line word (n ∷ [])) m w → w + min (length (lines g ps)) most ≤ length m
  unfolding section
  lines_left most h a = let b = rw (length-append, ← e) at h in omega (arith, b, a.place, same_room a)

module _ (t : Table) (ps qs : List Pair) where
  pub text_counted : {a b : ℕ} → a ≡ length (section (codes "races") (pair_line Races t) ps) → b ≡ length (section (codes "illegal") (pair_line Illegals t) qs) → a + b ≡ length (text t ps qs)
  unfolding text pair_line
  text_counted p q = rw length-append (omega arith)

  pub text_wrote : {l m o : List ℕ} {w r : ℕ} → Wrote l 0 (section (codes "races") (pair_line Races t) ps) m w
      → Wrote m w (section (codes "illegal") (pair_line Illegals t) qs) o r → Wrote l 0 (text t ps qs) o r
  unfolding text pair_line
  text_wrote p q = next p q

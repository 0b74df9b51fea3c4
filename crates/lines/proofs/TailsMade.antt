-- The tails of a table, made one after the other: first their lengths, then each at the end of its own eight bytes, past those before it.
-- Assumes nothing.
use Prim.Native.Nat.{ℕ, zero, suc, ◌+◌, ◌*◌, ◌-◌, ◌<◌, ◌≤◌}
use mathlib.Core.Path.{◌≡◌, refl, ◌∙◌}
use mathlib.Core.List.{List}
use native.Mathlib.Decide.{ℕ_discrete}
use native.Mathlib.Omega.{arith}
use lib.ListN.{length, get_or, set, replicate}
use lib.Seq.{sets, get_or-set_same, get_or-set_other}
use Rattle.rules.specs.Table.{Table}
use Rattle.rows.specs.Writing.{Wrote}
use Rattle.rows.proofs.Written.{same_room}
use Rattle.lines.specs.declared.Section.{Section}
use Rattle.lines.specs.Lines.{tail_of, tail_at, Short, Lengths, Tails}
use Rattle.store.proofs.Parts.{part_stored, part_before}

pub zero_at : (n i : ℕ) → ◌≡◌ {A = ℕ} (get_or (replicate n 0) i 0) 0
zero_at zero i = refl
zero_at (suc n) zero = refl
zero_at (suc n) (suc i) = zero_at n i

-- The tail of j that was just written, and that of an earlier number.
tail_made : (lens vs tails : List ℕ) (j : ℕ) → get_or lens j 0 ≡ length vs → 8 * j + 8 - get_or lens j 0 + get_or lens j 0 ≤ length tails
    → tail_at lens (sets tails (8 * j + 8 - get_or lens j 0) vs) j ≡ vs
unfolding tail_at
tail_made lens vs tails j e h = rw e (part_stored vs tails (8 * j + 8 - length vs) (rw e at h))

tail_kept : (vs lens tails : List ℕ) (i j : ℕ) → Short lens → i < j → 8 * j + 8 ≤ length tails
    → tail_at lens (sets tails (8 * j + 8 - get_or lens j 0) vs) i ≡ tail_at lens tails i
unfolding tail_at
tail_kept vs lens tails i j s h b =
    part_before vs tails (8 * j + 8 - get_or lens j 0) (8 * i + 8 - get_or lens i 0) (get_or lens i 0) (omega (arith, s.few i, s.few j)) (omega arith)

module _ (which : Section) (t : Table) where
  pub lengths_none : (lens : List ℕ) → lens ≡ replicate 128 0 → Lengths which t 0 lens
  lengths_none lens e =
      record { short = record { few = λ j. rw (e, zero_at 128 j) (omega arith) }; each = λ j h. absurd (omega arith) }

  pub lengths_go : (lens : List ℕ) (j v : ℕ) → j < length lens → v ≤ 8 → v ≡ length (tail_of which t j) → Lengths which t j lens → Lengths which t (j + 1) (set lens j v)
  lengths_go lens j v h l e f =
      record {
        short = record { few = λ i. few i (ℕ_discrete i j) };
        each = λ i b. each i b (ℕ_discrete i j);
      }
    where
      few : (i : ℕ) → Dec (i ≡ j) → get_or (set lens j v) i 0 ≤ 8
      few i (yes z) = rw (z, get_or-set_same lens j v 0 h) l
      few i (no z) = rw (get_or-set_other lens j i v 0 z) (f.short.few i)

      each : (i : ℕ) → i < j + 1 → Dec (i ≡ j) → get_or (set lens j v) i 0 ≡ length (tail_of which t i)
      each i b (yes z) = rw (z, get_or-set_same lens j v 0 h) e
      each i b (no z) = get_or-set_other lens j i v 0 z ∙ f.each i (omega arith)

  pub tails_none : (lens tails : List ℕ) → length tails ≡ 1024 → Tails which t 0 lens tails
  tails_none lens tails e = record { sized = e; each = λ j h. absurd (omega arith) }

  pub tails_go : {lens tails m : List ℕ} {n r : ℕ} (j : ℕ) → Lengths which t n lens → j < n → n ≤ 128 → Tails which t j lens tails
      → Wrote tails (8 * j + 8 - get_or lens j 0) (tail_of which t j) m r → Tails which t (j + 1) lens m
  tails_go {lens} {tails} {m} {n} j f h b g w = record { sized = same_room w ∙ g.sized; each = λ i l. each i l (ℕ_discrete i j) }
    where
      each : (i : ℕ) → i < j + 1 → Dec (i ≡ j) → tail_at lens m i ≡ tail_of which t i
      each i l (yes z) = rw (z, w.bytes) (tail_made lens (tail_of which t j) tails j (f.each j h) (omega (arith, f.short.few j, g.sized)))
      each i l (no z) = rw w.bytes (tail_kept (tail_of which t j) lens tails i j f.short (omega arith) (omega (arith, g.sized))) ∙ g.each i (omega arith)

  -- The end of each loop: all n are made.
  pub lengths_all : {lens : List ℕ} {j m n : ℕ} → j ≤ m → m ≤ j → m ≡ n → Lengths which t j lens → Lengths which t n lens
  lengths_all {lens} {j} {m} {n} a b e f = let z : n ≡ j = omega arith in rw z f

  pub tails_all : {lens tails : List ℕ} {j m n : ℕ} → j ≤ m → m ≤ j → m ≡ n → Tails which t j lens tails → Tails which t n lens tails
  tails_all {lens} {tails} {j} {m} {n} a b e f = let z : n ≡ j = omega arith in rw z f

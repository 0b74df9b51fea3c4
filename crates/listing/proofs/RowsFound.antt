-- The rows that were found: their numbers are below the number of accesses, or of locks, and their pairs are the table's.
-- Assumes nothing.
use Prim.Native.Nat.{ℕ, ◌+◌, ◌<◌}
use mathlib.Core.Path.{◌≡◌, sym, ◌∙◌}
use mathlib.Core.Bool.{Bool, true, false≢true}
use mathlib.Core.List.{List}
use native.Mathlib.Omega.{arith}
use native.Mathlib.Decide.{dec_lt}
use lib.ListN.{get_or, replicate}
use borrow.Author.Tests.{ltb-true}
use Rattle.rules.specs.Table.{Table}
use Rattle.rules.specs.Locks.{in_set}
use Rattle.rules.specs.Accepted.{Accepted}
use Rattle.rules.specs.Races.{race, illegal}
use Rattle.rules.specs.Listing.{text, listing}
use Rattle.rules.proofs.Bools.{and_left}
use Rattle.rows.specs.Rows.{Row}
use Rattle.matrix.specs.Matrix.{RaceRows, IllegalRows}
use Rattle.rows.specs.Writing.{rows_of}
use Rattle.rows.proofs.Bits.{has_none, has_zero}
use Rattle.races.proofs.ListAnswers.{races_found, illegals_found}
use Rattle.lines.specs.declared.Section.TheVariants.{Races, Illegals}
use Rattle.lines.specs.Lines.{seconds, RowsWithin}
use Rattle.lines.proofs.TailsMade.{zero_at}

row_within : (w : ℕ) (p : ℕ → Bool) (b n x j : ℕ) → Row w p b n x → in_set j x ≡ true → b + j < n
row_within w p b n x j r e = side (dec_lt j w)
  where
    side : Dec (j < w) → b + j < n
    side (yes h) = ltb-true (b + j) n (and_left _ (p (b + j)) (sym (r.bits j h) ∙ e))
    side (no h) = absurd (false≢true (sym (has_none w j x r.fits (omega arith)) ∙ e))

module _ (t : Table) where
  pub race_within : {low₀ high₀ low high : List ℕ} → RaceRows t low₀ high₀ low high → RowsWithin Races t low high
  unfolding seconds
  race_within {low₀} {high₀} {low} {high} r =
      record {
        each = λ i h. record {
          lows = λ j l e. omega (arith, row_within 64 (race t i) 0 t.accesses (get_or low i 0) j (r.lows i h) e);
          highs = λ j l e. row_within 64 (race t i) 64 t.accesses (get_or high i 0) j (r.highs i h) e;
        };
      }

  pub illegal_within : {rows₀ rows high : List ℕ} → IllegalRows t rows₀ rows → high ≡ replicate 128 0 → RowsWithin Illegals t rows high
  unfolding seconds
  illegal_within {rows₀} {rows} r z =
      record {
        each = λ i h. record {
          lows = λ j l e. omega (arith, row_within 32 (illegal t i) 0 t.locks (get_or rows i 0) j (r.words i h) e);
          highs = λ j l e. absurd (false≢true (sym (has_zero j) ∙ rw (z, zero_at 128 i) at e));
        };
      }

pub text_found : (t : Table) → Accepted t → {low₀ high₀ low high rows₀ rows none : List ℕ} {n : ℕ} → n ≡ t.accesses → RaceRows t low₀ high₀ low high
    → IllegalRows t rows₀ rows → none ≡ replicate 128 0 → text t (rows_of low high n) (rows_of rows none n) ≡ listing t
unfolding listing
text_found t ok {n = n} e r s z = rw (races_found t ok n e r, illegals_found t ok n e s z)

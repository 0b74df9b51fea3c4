-- The rows that were found hold the pairs of the table: its races, and its illegal pairs.
-- Assumes nothing.
use Prim.Native.Nat.{ℕ, zero, suc, ◌+◌, ◌≤◌}
use mathlib.Core.Path.{◌≡◌, refl}
use mathlib.Core.Logic.{◌⊎◌, inl, inr}
use mathlib.Core.Bool.{Bool, true, false, ◌&&◌}
use mathlib.Core.List.{List, []}
use native.Mathlib.Omega.{arith}
use lib.Dec.{ltb}
use lib.ListN.{get_or, replicate}
use borrow.Author.Tests.{ltb-true, ltb-false, le-ltb}
use Rattle.rules.specs.Locks.{in_set}
use Rattle.rules.specs.Table.{Table}
use Rattle.rules.specs.Accepted.{Accepted}
use Rattle.rules.specs.Races.{race, illegal, races, illegals}
use Rattle.rules.proofs.Bools.{bool}
use Rattle.rows.specs.Rows.{Row}
use Rattle.rows.specs.Writing.{rows_of}
use Rattle.rows.proofs.Bits.{has_none, has_zero}
use Rattle.rows.proofs.RowPairs.{rows_words}
use Rattle.matrix.specs.Matrix.{RaceRows, IllegalRows}

-- A word of 32 bits is a row's low word, beside a high word of 0.
wider : (p : ℕ → Bool) (m x : ℕ) → m ≤ 32 → Row 32 p 0 m x → Row 64 p 0 m x
wider p m x h f = record { fits = omega (arith, f.fits); bits = λ j l. side j (bool (ltb j 32)) }
  where
    side : (j : ℕ) → (ltb j 32 ≡ true) ⊎ (ltb j 32 ≡ false) → in_set j x ≡ (ltb (0 + j) m && p (0 + j))
    side j (inl e) = f.bits j (ltb-true j 32 e)
    side j (inr e) =
        let k = ltb-false j 32 e in
        rw (le-ltb (0 + j) m (omega arith)) (has_none 32 j x f.fits k)

beside : (p : ℕ → Bool) (m : ℕ) → m ≤ 32 → Row 64 p 64 m 0
beside p m h = record { fits = omega arith; bits = λ j l. rw (le-ltb (64 + j) m (omega arith)) (has_zero j) }

zeros : (n i : ℕ) → ◌≡◌ {A = ℕ} (get_or (replicate n 0) i 0) 0
zeros zero i = refl
zeros (suc n) zero = refl
zeros (suc n) (suc i) = zeros n i

module _ (t : Table) (ok : Accepted t) where
  pub race_pairs : {low₀ high₀ low high : List ℕ} → RaceRows t low₀ high₀ low high → rows_of low high t.accesses ≡ races t
  unfolding races
  race_pairs {low₀} {high₀} {low} {high} r = rows_words (race t) t.accesses ok.few_accesses low high t.accesses r.lows r.highs

  -- The high words beside them are all 0.
  illegal_words : {rows₀ rows : List ℕ} (high : List ℕ) → IllegalRows t rows₀ rows → ((i : ℕ) → get_or high i 0 ≡ 0)
      → rows_of rows high t.accesses ≡ illegals t
  unfolding illegals
  illegal_words {rows₀} {rows} high r z =
      rows_words (illegal t) t.locks (omega (arith, ok.few_locks)) rows high t.accesses
      (λ i h. wider (illegal t i) t.locks (get_or rows i 0) ok.few_locks (r.words i h))
      (λ i h. rw (z i) (beside (illegal t i) t.locks ok.few_locks))

  pub illegal_pairs : {rows₀ rows : List ℕ} → IllegalRows t rows₀ rows → rows_of rows [] t.accesses ≡ illegals t
  illegal_pairs r = illegal_words [] r (λ i. refl)

  pub illegal_pairs_beside : {rows₀ rows high : List ℕ} → IllegalRows t rows₀ rows → high ≡ replicate 128 0 → rows_of rows high t.accesses ≡ illegals t
  illegal_pairs_beside {rows₀} {rows} {high} r e = illegal_words high r (λ i. rw e (zeros 128 i))

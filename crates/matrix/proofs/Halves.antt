-- The two halves of a row: the accesses from 0 on and those from 64 on.
-- Assumes nothing.
use Prim.Native.Nat.{ℕ, ◌+◌, ◌-◌, ◌≤◌, ◌<◌}
use mathlib.Core.Path.{◌≡◌, ◌∙◌, sym}
use mathlib.Core.List.{List}
use native.Mathlib.Omega.{arith}
use lib.Dec.{ltb}
use lib.ListN.{get_or}
use borrow.Author.Tests.{lt-ltb, le-ltb, ltb-true}
use Rattle.rules.specs.Table as rules
use Rattle.rules.specs.Reading.{table_at}
use Rattle.rules.specs.Accepted.{Accepted}
use Rattle.rules.specs.Races.{race}
use Rattle.table.specs.declared.Table.{Table}
use Rattle.table.specs.Answers.{shown}
use Rattle.matrix.specs.Words.{Marked, Gathered, Preempted, Blocking, Holders, Masks, Filled, HalfRows, Cleared}
use Rattle.rows.specs.Rows.{Row}
use Rattle.matrix.specs.Matrix.{RaceRows}
use Rattle.rows.proofs.Bits.{has_zero}
use Rattle.matrix.proofs.Stores.{same_test}
use Rattle.matrix.proofs.Rowing.{rows_are}

-- The rows against the accesses from base on, of the table that a struct shows.
pub half_rows_are : (t : Table) {base n b : ℕ} {tasks sub same pre g₀ g rows₀ rows : List ℕ}
    → Accepted (shown t) → Blocking (shown t) t.locks b → base + n ≤ t.accesses
    → Marked 128 (shown t).task_of base n tasks → Marked 64 (shown t).resource_of base n same → Gathered (shown t).tree tasks sub
    → Preempted (shown t).tree sub pre → Holders (shown t).lock_set base n b g₀ → Masks (shown t) t.locks sub g₀ g
    → Filled (shown t) same pre g t.accesses rows₀ rows → HalfRows (shown t) base n rows₀ rows
unfolding shown table_at
half_rows_are t {base} {n} {b} {tasks} {sub} {same} {pre} {g₀} {g} ok bs few mt ms up down hs mk f =
    rows_are (shown t) ok base n b bs few tasks sub same pre g₀ g mt ms up down hs mk f

module _ (t : rules.Table) where
  half : {base n : ℕ} {rows₀ rows : List ℕ} → HalfRows t base n rows₀ rows → ((j : ℕ) → j < 64 → ltb j n ≡ ltb (base + j) t.accesses)
      → (i : ℕ) → i < t.accesses → Row 64 (race t i) base t.accesses (get_or rows i 0)
  half f e i h = record { fits = f.fits i h; bits = λ j l. rw (← e j l) (f.bits i h j l) }

  none : {n : ℕ} {rows₀ rows : List ℕ} → n ≡ t.accesses → n ≤ 64 → Cleared n rows₀ rows
      → (i : ℕ) → i < t.accesses → Row 64 (race t i) 64 t.accesses (get_or rows i 0)
  none e l f i h =
      let z = f.words i (omega arith) in
      record { fits = omega arith; bits = λ j k. rw (z, le-ltb (64 + j) t.accesses (omega arith)) (has_zero j) }

  -- Where there are no more than 64 accesses.
  pub one_half : {n : ℕ} {low₀ low high₀ high : List ℕ} → n ≡ t.accesses → n ≤ 64 → HalfRows t 0 n low₀ low → Cleared n high₀ high
      → RaceRows t low₀ high₀ low high
  one_half e l f g =
      record {
        lows = half f (λ j h. let z : 0 + j ≡ j = omega arith in rw (z, e));
        highs = none e l g;
        low_kept = f.kept;
        high_kept = rw e at g.kept;
      }

  same_below : (j n m : ℕ) → (j < n → 64 + j < m) → (64 + j < m → j < n) → ltb j n ≡ ltb (64 + j) m
  same_below j n m f g =
      same_test (ltb j n) (ltb (64 + j) m) (λ e. lt-ltb (64 + j) m (f (ltb-true j n e))) (λ e. lt-ltb j n (g (ltb-true (64 + j) m e)))

  pub two_halves : {n : ℕ} {low₀ low high₀ high : List ℕ} → n ≡ t.accesses → 64 < n → n ≤ 128 → HalfRows t 0 64 low₀ low
      → HalfRows t 64 (n - 64) high₀ high → RaceRows t low₀ high₀ low high
  two_halves {n} e l m f g =
      record {
        lows = half f (λ j h. lt-ltb j 64 h ∙ sym (lt-ltb (0 + j) t.accesses (omega arith)));
        highs = half g (λ j h. same_below j (n - 64) t.accesses (λ k. omega arith) (λ k. omega arith));
        low_kept = f.kept;
        high_kept = g.kept;
      }

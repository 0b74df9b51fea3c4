-- A section in pieces: the lines of the first rows, and then those of the rows from there on, are its lines; and 4,096 bytes
-- are room for those of any row.
-- Assumes nothing.
use Prim.Native.Nat.{ℕ, zero, suc, ◌+◌, ◌*◌, ◌<◌, ◌≤◌}
use mathlib.Core.Path.{◌≡◌, sym, ◌∙◌, ap}
use mathlib.Core.List.{List, ◌++◌, append_assoc, append-nil}
use native.Mathlib.Omega.{arith}
use lib.ListN.{length, get_or, length-append}
use Rattle.rules.specs.Bounded.{Pair}
use Rattle.rules.specs.Reading.{byte, resource_at, table_at}
use Rattle.rules.specs.Accepted.{Accepted}
use Rattle.rules.specs.Listing.{lines}
use Rattle.table.specs.declared.Table.{Table}
use Rattle.table.specs.Answers.{counts, shown}
use Rattle.table.proofs.Bounds.{few_nodes, few_accesses_lem, task_low}
use Rattle.table.proofs.Shown.{accesses_shown}
use Rattle.rows.specs.Writing.{row_of, rows_of}
use Rattle.lines.specs.declared.Section.{Section}
use Rattle.lines.specs.Lines.{pair_line, head_of, seconds, Lengths, RowsWithin, rows_from}
use Rattle.lines.proofs.BitLines.{lines_append}
use Rattle.lines.proofs.LineEnds.{head_few}
use Rattle.lines.proofs.RowLines.{rows_one, count_begins, row_few}

module _ (low high : List ℕ) where
  rows_pieces : (from n : ℕ) → rows_of low high (from + n) ≡ rows_of low high from ++ rows_from low high from n
  unfolding rows_of rows_from
  rows_pieces from zero = let z : from + 0 ≡ from = omega arith in rw z (sym (append-nil (rows_of low high from)))
  rows_pieces from (suc n) =
      let z : from + suc n ≡ suc (from + n) = omega arith in
      rw (z, rows_pieces from n) (append_assoc (rows_of low high from) (rows_from low high from n) (row_of (get_or low (from + n) 0) (get_or high (from + n) 0) (from + n)))

  pub lines_pieces : (g : Pair → List ℕ) (from n : ℕ)
      → lines g (rows_of low high (from + n)) ≡ lines g (rows_of low high from) ++ lines g (rows_from low high from n)
  lines_pieces g from n = ap (lines g) (rows_pieces from n) ∙ lines_append g (rows_of low high from) (rows_from low high from n)

  -- All rows are one piece.
  pub one_piece : (n : ℕ) → rows_from low high 0 n ≡ rows_of low high n
  unfolding rows_of
  one_piece n = let z : 0 + n ≡ n = omega arith in sym (rw z at (rows_pieces 0 n))

-- The table t that stands in its bytes.
module _ (t : Table) (bytes : (p : ℕ) → byte t.bytes.now p < 256) (ok : Accepted (shown t)) where
  label_small : (r : ℕ) → (shown t).label r < 65536
  unfolding shown table_at
  label_small r = omega (arith, bytes (resource_at (counts t) r), bytes (resource_at (counts t) r + 1))

  head_short : (which : Section) (i : ℕ) → i < t.accesses → length (head_of which (shown t) i) ≤ 24
  head_short which i h = head_few which (shown t) i (label_small _) (omega (arith, few_accesses_lem t ok)) (omega (arith, task_low t ok i h, few_nodes t ok))

  pub piece_few : (which : Section) (lens low high : List ℕ) → Lengths which (shown t) (seconds which (shown t)) lens → RowsWithin which (shown t) low high
      → (from n : ℕ) → from + n ≤ t.accesses → length (lines (pair_line which (shown t)) (rows_from low high from n)) ≤ 4096 * n
  piece_few which lens low high f w from zero h = omega (arith, count_begins (pair_line which (shown t)) low high from)
  piece_few which lens low high f w from (suc n) h =
      let l : from + n < t.accesses = omega arith in
      let r = row_few which (shown t) (from + n) (get_or low (from + n) 0) (get_or high (from + n) 0) lens (w.each (from + n) (rw accesses_shown l)) f (head_short which (from + n) l) in
      let z : suc n ≡ n + 1 = omega arith in
      rw (z, rows_one, length-append) (omega (arith, r, piece_few which lens low high f w from n (omega arith)))

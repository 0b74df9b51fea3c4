-- That rows have the numbers of their section, and that tails have their lengths and stand in their places, has at most one proof each, so a value can
-- keep it.
-- Assumes nothing.
use Rattle.std.specs.Prelude.{ℕ, List}
use Rattle.std.proofs.Props.{props}
use Rattle.rules.specs.Table.{Table}
use Rattle.lines.specs.declared.Section.{Section}
use Rattle.lines.specs.Lines.{Lengths, Tails, RowsWithin}

pub rows_prop : (which : Section) (t : Table) (low high : List ℕ) → IsProp (RowsWithin which t low high)
rows_prop which t low high = Prim.hlevel props

pub lengths_prop : (which : Section) (t : Table) (n : ℕ) (lens : List ℕ) → IsProp (Lengths which t n lens)
lengths_prop which t n lens = Prim.hlevel props

pub tails_prop : (which : Section) (t : Table) (n : ℕ) (lens tails : List ℕ) → IsProp (Tails which t n lens tails)
tails_prop which t n lens tails = Prim.hlevel props

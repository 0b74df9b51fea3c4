-- The whole call: the text of the table that the bytes are, or of their refusal.
-- Assumes nothing.
use Prim.Native.Nat.{ℕ}
use mathlib.Core.Path.{◌≡◌}
use mathlib.Core.List.{List}
use Rattle.rules.specs.Table.{Table}
use Rattle.rules.specs.Reading.{Is, Refused, read}
use Rattle.rules.specs.Calls.{reading}
use Rattle.rules.specs.Listing.{listing, refused_line, findings, writing_text, listing_call}

module _ (b out : List ℕ) where
  pub table_text : (t : Table) → read b ≡ Is t → writing_text (listing t) out ≡ listing_call b out
  unfolding listing_call findings reading
  table_text t e = rw e

  pub refused_text : (n p : ℕ) → read b ≡ Refused n p → writing_text (refused_line n p) out ≡ listing_call b out
  unfolding listing_call findings reading
  refused_text n p e = rw e

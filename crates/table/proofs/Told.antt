-- What a caller learns from the reader's answer about the bytes b.
-- Assumes nothing.
use Prim.Native.Nat.{ℕ}
use mathlib.Core.Path.{◌≡◌, sym}
use mathlib.Core.List.{List}
use Rattle.std.specs.Prelude.{Ok, Err}
use Rattle.rules.specs.Reading as reading
use Rattle.rules.specs.Reading.{read, Is, counts_in, table_at}
use Rattle.rules.specs.Accepted.{Accepted}
use Rattle.rules.proofs.Accepted.{accepted, stands}
use Rattle.table.specs.declared.Table.{Table}
use Rattle.table.specs.declared.checked.Checked.{Checked}
use Rattle.table.specs.declared.refusals.Fault.{Fault}
use Rattle.table.specs.Answers.{shown, number, Stands}
use Rattle.table.specs.Read.{told}

module _ (b : List ℕ) where
  pub told_table : (t : Checked) → told (Ok t) ≡ read b → read b ≡ Is (shown t.table)
  unfolding told
  told_table t e = sym e

  pub told_fault : (f : Fault) → told (Err f) ≡ read b → read b ≡ reading.Refused (number f) f.place
  unfolding told
  told_fault f e = sym e

-- A table that reading finds keeps every rule, and stands whole in the bytes that were read.
module _ (t : Table) where
  pub told_accepted : (b : List ℕ) → read b ≡ Is (shown t) → Accepted (shown t)
  told_accepted b q = accepted b (shown t) q

  pub told_stands : read t.bytes.now ≡ Is (shown t) → Stands t
  unfolding counts_in shown table_at
  told_stands q = stands t.bytes.now (shown t) q

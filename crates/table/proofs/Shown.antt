-- The table that a struct shows has the struct's counts.
-- Assumes nothing.
use mathlib.Core.Path.{◌≡◌, refl}
use Rattle.rules.specs.Reading.{table_at, counts_in}
use Rattle.table.specs.declared.Table.{Table}
use Rattle.table.specs.Answers.{counts, shown}

module _ (t : Table) where
  pub counts_shown : counts_in (shown t) ≡ counts t
  unfolding counts_in shown table_at
  counts_shown = refl

  pub nodes_shown : (shown t).tree.nodes ≡ t.nodes
  unfolding shown table_at
  nodes_shown = refl

  pub locks_shown : (shown t).locks ≡ t.locks
  unfolding shown table_at
  locks_shown = refl

  pub resources_shown : (shown t).resources ≡ t.resources
  unfolding shown table_at
  resources_shown = refl

  pub accesses_shown : (shown t).accesses ≡ t.accesses
  unfolding shown table_at
  accesses_shown = refl

-- That a table is accepted has at most one proof, so a value can keep it.
-- Assumes nothing.
use Rattle.std.proofs.Props.{props}
use Rattle.rules.specs.Table.{Table}
use Rattle.rules.specs.Accepted.{Accepted}

pub accepted_prop : (t : Table) → IsProp (Accepted t)
accepted_prop t = Prim.hlevel props

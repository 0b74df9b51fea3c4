use Rattle.matrix.proofs.Inheriting.{illegal_rows_are}
use mathlib.Core.Path.{refl}
use Rattle.matrix.proofs.illegal.illegal_rows.Goals as goal

pub returns : goal.returns
returns c = (
  illegal_rows_are c.args.t.now.table c.args.t.now.accepted c.blocking_locks-b.ensures c.provided.ensures c.inherit.ensures c.unprovided.ensures,
  refl,
)

use Rattle.rules.specs.Reading.{covered_right}
use Rattle.table.proofs.KindLaws.{blocking_is, blocking_not}
use Rattle.table.proofs.Table.covered_right.Goals as goal

pub returns-in-Blocking : goal.returns-in-Blocking
unfolding covered_right
returns-in-Blocking c = rw (blocking_is _ c.in-Blocking.ensures, c.covered-c.ensures.0)

pub returns-in_default : goal.returns-in_default
unfolding covered_right
returns-in_default c =
    rw (blocking_not _ _ c.lock_kind.ensures c.in_default.not-Blocking, ← c.covered-c.ensures.0, ← c.provider.ensures.0)
    c.is_child.ensures

-- What the kind of a lock says of it.
-- Assumes nothing.
use Prim.Native.Nat.{ℕ}
use mathlib.Core.Path.{◌≡◌}
use mathlib.Core.Logic.{◌≢◌}
use mathlib.Core.Bool.{false}
use Rattle.rules.specs.Table.{Table}
use Rattle.rules.specs.Preemption.{at_or_below}
use Rattle.rules.specs.Locks.{covers}
use Rattle.table.specs.declared.kinds.LockKind.{LockKind}
use Rattle.table.specs.declared.kinds.LockKind.TheVariants.{Mask}
use Rattle.table.specs.Kinds.{lock_kind}
use Rattle.table.proofs.KindLaws.{mask_is, mask_not}

module _ (t : Table) (k x : ℕ) where
  pub mask_covers : Mask ≡ lock_kind (t.lock_kind k) → at_or_below t.tree x (t.covered k) ≡ covers t k x
  unfolding covers
  mask_covers e = rw (mask_is _ e)

  pub others_cover : (v : LockKind) → v ≡ lock_kind (t.lock_kind k) → v ≢ Mask → false ≡ covers t k x
  unfolding covers
  others_cover v e h = rw (mask_not _ v e h)

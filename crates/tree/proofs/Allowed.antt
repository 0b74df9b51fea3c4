-- What a scheduler allows its children, by its kind.
-- Assumes nothing.
use Prim.Native.Nat.{ℕ}
use mathlib.Core.Path.{◌≡◌}
use mathlib.Core.Logic.{◌≢◌}
use mathlib.Core.Bool.{true, false}
use lib.Dec.{ltb}
use Rattle.rules.specs.Table.{Tree}
use Rattle.rules.specs.Preemption.{allows}
use Rattle.table.specs.declared.kinds.NodeKind.{NodeKind}
use Rattle.table.specs.declared.kinds.NodeKind.TheVariants.{TimeSliced, Preemptive}
use Rattle.table.specs.Kinds.{node_kind}
use Rattle.table.proofs.KindLaws.{time_sliced_is, time_sliced_not, preemptive_is, preemptive_not}

module _ (t : Tree) (p a b : ℕ) where
  pub time_sliced_allows : TimeSliced ≡ node_kind (t.kind p) → true ≡ allows t p a b
  unfolding allows
  time_sliced_allows e = rw (time_sliced_is _ e)

  pub preemptive_allows : Preemptive ≡ node_kind (t.kind p) → ltb a b ≡ allows t p a b
  unfolding allows
  preemptive_allows e = rw (time_sliced_not _ Preemptive e (λ q. cc), preemptive_is _ e)

  pub others_allow : (k : NodeKind) → k ≡ node_kind (t.kind p) → k ≢ TimeSliced → k ≢ Preemptive → false ≡ allows t p a b
  unfolding allows
  others_allow k e s q = rw (time_sliced_not _ k e s, preemptive_not _ k e q)

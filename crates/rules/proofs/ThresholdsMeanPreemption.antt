-- Of two different tasks of a table that has thresholds, the one may preempt the other by the tree exactly when its priority is above the
-- other's threshold. Zero is highest.
-- Assumes nothing.
use Prim.Native.Nat.{ℕ, ◌<◌}
use mathlib.Core.Path.{◌≡◌, sym, ◌∙◌}
use mathlib.Core.Logic.{◌≢◌, ◌↔◌}
use mathlib.Core.Bool.{true}
use mathlib.Core.List.{List}
use lib.Dec.{ltb}
use borrow.Author.Tests.{ltb-true, lt-ltb}
use Rattle.rules.specs.Table.{Table, is_task}
use Rattle.rules.specs.Reading.{Is, read}
use Rattle.rules.specs.Accepted.{Rooted}
use Rattle.rules.specs.Preemption.{may_preempt}
use Rattle.rules.specs.Priorities.{has_thresholds, walk}
use Rattle.rules.proofs.Accepted.{accepted}
use Rattle.rules.proofs.RangesDecide.{preempts_is}
use Rattle.rules.proofs.WalkIsClosed.{task_numbers}

pub thresholds_mean_preemption :
    (b : List ℕ) (t : Table) → read b ≡ Is t → has_thresholds t.tree ≡ true → (x u : ℕ)
    → is_task t.tree x ≡ true → is_task t.tree u ≡ true → x ≢ u
    → may_preempt t.tree x u ≡ true ↔ (walk t.tree).priority x < (walk t.tree).threshold u
thresholds_mean_preemption b t e has x u tx tu d = (λ m. ltb-true _ _ (sym q ∙ m), λ l. q ∙ lt-ltb _ _ l)
  where
    ok : Rooted t.tree
    ok = (accepted b t e).tree

    q : may_preempt t.tree x u ≡ ltb ((walk t.tree).priority x) ((walk t.tree).threshold u)
    q =
        rw ((task_numbers t.tree ok has x tx).0, (task_numbers t.tree ok has u tu).1)
        (preempts_is t.tree ok has x u tx tu d)

-- What the tests on a node say: it is in the tree, and of its kind or a child of its parent.
-- Assumes nothing.
use Prim.Native.Nat.{ℕ, ◌<◌}
use mathlib.Core.Path.{◌≡◌}
use mathlib.Core.Logic.{◌≢◌}
use mathlib.Core.Bool.{true, not, ◌&&◌}
use lib.Dec.{ltb, eqb}
use borrow.Author.Tests.{ltb-true, lt-ltb, eqb-true, eqb-false, eq-eqb, ne_eqb}
use Rattle.rules.specs.Table.{Tree, task, is_task, is_scheduler, is_child}
use Rattle.rules.proofs.Bools.{and_left, and_right, not_true}

pub task_at : (t : Tree) (n : ℕ) → is_task t n ≡ true → (n < t.nodes) × (t.kind n ≡ task)
unfolding is_task
task_at t n e = (ltb-true _ _ (and_left _ _ e), eqb-true _ _ (and_right (ltb n t.nodes) _ e))

pub task_from : (t : Tree) (n : ℕ) → n < t.nodes → t.kind n ≡ task → is_task t n ≡ true
unfolding is_task
task_from t n h k = rw (lt-ltb n t.nodes h, k)

pub scheduler_from : (t : Tree) (n : ℕ) → n < t.nodes → t.kind n ≢ task → is_scheduler t n ≡ true
unfolding is_scheduler
scheduler_from t n h k = rw (lt-ltb n t.nodes h, ne_eqb (t.kind n) task k)

pub child_at : (t : Tree) (p c : ℕ) → is_child t p c ≡ true → (c < t.nodes) × (c ≢ 0) × (t.parent c ≡ p)
unfolding is_child
child_at t p c e = (
  ltb-true _ _ (and_left _ _ (and_left _ _ e)),
  eqb-false _ _ (not_true _ (and_right (ltb c t.nodes) _ (and_left _ _ e))),
  eqb-true _ _ (and_right (ltb c t.nodes && not (eqb c 0)) _ e),
)

pub child_from : (t : Tree) (p c : ℕ) → c < t.nodes → c ≢ 0 → t.parent c ≡ p → is_child t p c ≡ true
unfolding is_child
child_from t p c h z e = rw (lt-ltb c t.nodes h, ne_eqb c 0 z, eq-eqb (t.parent c) p e)

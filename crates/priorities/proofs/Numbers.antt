-- The first numbers at the children of a scheduler: they follow one another under kinds 1 and 2, and are one number under a FIFO. A task's
-- number is below 128, so it fits a byte.
-- Assumes nothing.
use Prim.Native.Nat.{ℕ, ◌+◌, ◌<◌}
use mathlib.Core.Path.{◌≡◌}
use mathlib.Core.Logic.{◌≢◌}
use mathlib.Core.Bool.{true, false}
use mathlib.Core.List.{List}
use native.Mathlib.Numerals.{add-one}
use native.Mathlib.Omega.{arith}
use lib.ListN.{length}
use Rattle.rules.specs.Table.{Tree, task, preemptive, non_preemptive, fifo, is_child}
use Rattle.rules.specs.Accepted.{Rooted}
use Rattle.rules.proofs.Nodes.{task_from, child_at}
use Rattle.rules.proofs.Sums.{sum_below, sum_none}
use Rattle.rules.proofs.Widths.{width, share, first, share_child, share_other}
use Rattle.rules.proofs.Ranges.{no_slices}
use Rattle.rules.proofs.WidthBound.{tasks_within, first_below}
use Rattle.priorities.specs.Numbering.{Ready}
use Rattle.priorities.proofs.ChildLists.{no_child}

-- The counter at node j, where the children of p follow one another.
unfoldable pub passed : Tree → ℕ → ℕ → ℕ
passed t p j = first t p + sum_below j (share t p)

pub task_few : (t : Tree) (out : List ℕ) (n c : ℕ) → Ready t out n c → t.kind n ≡ task → c < 128
task_few t out n c r k =
    let ok = r.rooted in
    omega (arith, r.counter, first_below t ok r.has n (task_from t n r.known k), tasks_within t ok, ok.few)

module _ (t : Tree) (ok : Rooted t) (p : ℕ) where
  pub passed_none : passed t p (p + 1) ≡ first t p
  unfolding passed
  passed_none = omega (arith, sum_none (p + 1) (share t p) (λ c l. share_other t p c (no_child t ok p c (omega arith))))

  pub passed_child : (j : ℕ) → is_child t p j ≡ true → passed t p (j + 1) ≡ passed t p j + width t j
  unfolding passed sum_below
  passed_child j e = rw (add-one j) (omega (arith, share_child t p j e))

  pub passed_other : (j : ℕ) → is_child t p j ≡ false → passed t p (j + 1) ≡ passed t p j
  unfolding passed sum_below
  passed_other j e = rw (add-one j) (omega (arith, share_other t p j e))

-- A child of p may be numbered from d on, if d is its first number.
pub ready_child : (t : Tree) (out : List ℕ) (p c : ℕ) → Ready t out p c → (new : List ℕ) → length new ≡ length out
    → (j d : ℕ) → is_child t p j ≡ true → d ≡ first t j → Ready t new j d
ready_child t out p c r new s j d e q =
    record { rooted = r.rooted; has = r.has; known = (child_at t p j e).0; room = omega (arith, r.room); counter = q }

-- A scheduler of neither kind 1 nor kind 2 is a FIFO, since none is time-sliced.
pub kind_fifo : (t : Tree) (out : List ℕ) (n c : ℕ) → Ready t out n c → t.kind n ≢ task → t.kind n ≢ preemptive → t.kind n ≢ non_preemptive
    → t.kind n ≡ fifo
kind_fifo t out n c r a b d = omega (arith, r.rooted.kinds n r.known, no_slices t r.rooted r.has n r.known)

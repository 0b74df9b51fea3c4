-- What the functions within this room ask and owe. The buffer shows a walk so far; numbering a node leads from what shows a walk to what
-- shows that walk after it has visited the node.
-- Assumes nothing.
use Rattle.std.specs.Prelude.{ℕ, ◌+◌, ◌*◌, ◌≤◌, ◌<◌, ◌≡◌, Bool, true, not, ◌&&◌, ◌||◌, List, ◌++◌, eqb, length}
use Rattle.rules.specs.Table.{Tree, task, preemptive, time_sliced}
use Rattle.rules.specs.Accepted.{Rooted}
use Rattle.rules.specs.Priorities.{has_thresholds, Walk, visit, shown}
use Rattle.rules.proofs.Widths.{first, width}

-- What thresholds ask of node n.
unfoldable pub may_have : Tree → ℕ → Bool
may_have t n =
    not (eqb (t.kind n) time_sliced)
    && (eqb n 0 || eqb (t.kind n) task || eqb (t.kind (t.parent n)) preemptive)

-- The buffer shows the walk w, two bytes a node, and then the bytes `rest`; c is its counter.
pub record Shows (t : Tree) (rest out : List ℕ) (c : ℕ) (w : Walk) : Type 0 where
  pub bytes : out ≡ shown w t.nodes ++ rest
  pub counter : c ≡ w.counter

-- Node n of a tree with thresholds may be numbered from c on: c is its first number, and there is room.
pub record Ready (t : Tree) (out : List ℕ) (n c : ℕ) : Type 0 where
  pub rooted : Rooted t
  pub has : has_thresholds t ≡ true
  pub known : n < t.nodes
  pub room : t.nodes * 2 ≤ length out
  pub counter : c ≡ first t n

-- From the bytes `old` and the counter c to `new` and r: every walk shown has visited node n, and the counter has moved on by its width.
pub record Visited (t : Tree) (n : ℕ) (old : List ℕ) (c : ℕ) (new : List ℕ) (r : ℕ) : Type 0 where
  pub walked : (f : ℕ) (rest : List ℕ) (w : Walk) → t.nodes ≤ n + f → Shows t rest old c w → Shows t rest new r (visit f t n w)
  pub counter : r ≡ first t n + width t n

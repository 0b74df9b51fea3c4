-- Priorities and thresholds: a walk from the root, whose counter goes from node to node. Zero is highest.
-- Assumes nothing.
use Rattle.std.specs.Prelude.{ℕ, zero, suc, ◌+◌, Bool, not, ◌&&◌, ◌||◌, cond, List, [], ◌∷◌, ◌++◌, eqb}
use Rattle.rules.specs.Bounded.{all_below, some_below}
use Rattle.rules.specs.Table.{Tree, task, preemptive, non_preemptive, time_sliced, is_child}

-- Thresholds exist: no node is of kind 4, and no scheduler is a child of kind 2 or 3.
unfoldable pub has_thresholds : Tree → Bool
has_thresholds t =
    all_below t.nodes (λ n.
    not (eqb (t.kind n) time_sliced)
    && (eqb n 0 || eqb (t.kind n) task || eqb (t.kind (t.parent n)) preemptive))

-- The walk so far: the counter, and the priority and threshold that each node shows.
pub record Walk : Type 0 where
  pub counter : ℕ
  pub priority : ℕ → ℕ
  pub threshold : ℕ → ℕ

-- At the start the counter is 0, and every node shows 255, 255, as schedulers do to the end.
unfoldable pub unwalked : Walk
unwalked = record { counter = 0; priority = λ n. 255; threshold = λ n. 255 }

-- Task n gets the counter as its priority, and the threshold h.
unfoldable pub given : ℕ → ℕ → Walk → Walk
given n h w =
    record {
      counter = w.counter;
      priority = λ m. cond (eqb m n) w.counter (w.priority m);
      threshold = λ m. cond (eqb m n) h (w.threshold m);
    }

-- The counter moves on.
unfoldable pub moved_on : Walk → Walk
moved_on w = record { counter = w.counter + 1; priority = w.priority; threshold = w.threshold }

-- The walk visits, by v, the children of p among the nodes below n, in rank order.
unfoldable pub children : Tree → ℕ → ℕ → (ℕ → Walk → Walk) → Walk → Walk
children t p zero v w = w
children t p (suc n) v w = cond (is_child t p n) (v n (children t p n v w)) (children t p n v w)

-- The walk visits node n, and at most f levels below it. A task under kind 1, or one that is the root: the counter is its priority and
-- threshold, and moves on. Kind 1: its children, one after the other. Kind 2: consecutive priorities, the first of them the threshold of
-- each. FIFO: one priority for all, also their threshold; the counter moves on once if there was a task.
unfoldable pub visit : ℕ → Tree → ℕ → Walk → Walk
visit zero t n w = w
visit (suc f) t n w =
    cond (eqb (t.kind n) task) (moved_on (given n w.counter w))
    (cond (eqb (t.kind n) preemptive) (children t n t.nodes (visit f t) w)
    (cond (eqb (t.kind n) non_preemptive) (children t n t.nodes (λ c v. moved_on (given c w.counter v)) w)
    (let all = children t n t.nodes (λ c v. given c v.counter v) w in
    cond (some_below t.nodes (is_child t n)) (moved_on all) all)))

-- The whole walk.
unfoldable pub walk : Tree → Walk
walk t = visit t.nodes t 0 unwalked

-- What the walk w shows of the nodes below n: priority then threshold, two bytes a node.
unfoldable pub shown : Walk → ℕ → List ℕ
shown w zero = []
shown w (suc n) = shown w n ++ (w.priority n ∷ w.threshold n ∷ [])

-- Priorities and thresholds, 2N bytes.
unfoldable pub thresholds : Tree → List ℕ
thresholds t = shown (walk t) t.nodes

-- The walk shows the numbers of the closed form: if the counter is a node's first number as the walk comes to the node, then it has moved on
-- by the node's width as the walk leaves it, and every task at or below the node shows its numbers.
-- Assumes nothing.
use Prim.Native.Nat.{ℕ, zero, suc, ◌+◌, ◌≤◌, ◌<◌}
use mathlib.Core.Path.{◌≡◌, refl, sym, ◌∙◌, ap, subst}
use mathlib.Core.Logic.{◌≢◌, ◌⊎◌, inl, inr}
use mathlib.Core.Bool.{Bool, true, false, cond}
use native.Mathlib.Decide.{ℕ_discrete}
use native.Mathlib.Omega.{arith}
use Rattle.rules.specs.Bounded.{some_below}
use Rattle.rules.specs.Table.{Tree, task, preemptive, non_preemptive, fifo, is_task, is_child}
use Rattle.rules.specs.Accepted.{Rooted}
use Rattle.rules.specs.Priorities.{has_thresholds, Walk, unwalked, given, moved_on, children, visit, walk}
use Rattle.rules.specs.Above.{Above}
use Rattle.rules.proofs.Bools.{bool}
use Rattle.rules.proofs.Bounded.{some_at, some_none}
use Rattle.rules.proofs.Nodes.{task_at, task_from, child_at}
use Rattle.rules.proofs.Climbs.{child_lower, task_lowest, root_above}
use Rattle.rules.proofs.Sums.{sum_below, sum_part, sum_none}
use Rattle.rules.proofs.Widths.{width, share, first, ceiling, first_root, share_child, share_other, width_task, width_fifo, width_row, first_fifo, first_row, ceiling_shared, ceiling_own}
use Rattle.rules.proofs.Ranges.{no_slices, flat}
use Rattle.rules.proofs.Walked.{priority_of, threshold_of, Right, Walked, counted_as, first_walked, gathered, given_right, given_kept}

module _ (t : Tree) (ok : Rooted t) (has : has_thresholds t ≡ true) where
  given_walked : (n h : ℕ) (w : Walk) → n < t.nodes → t.kind n ≡ task → w.counter ≡ first t n → h ≡ ceiling t n
      → Walked t (Above t n) w (given n h w) w.counter
  given_walked n h w l k e q =
      let r = given_right t n h w (task_from t n l k) e q in
      record {
        counted = (unfold given in refl);
        done = λ d td u. subst (λ (x : ℕ). Right t x (given n h w)) (task_lowest t ok k u) r;
        kept = given_kept t n h w r;
      }

  moved_walked : {s : ℕ → Type 0} {w v : Walk} {a : ℕ} → Walked t s w v a → Walked t s w (moved_on v) (a + 1)
  unfolding moved_on Right
  moved_walked r = record { counted = ap (λ (x : ℕ). x + 1) r.counted; done = r.done; kept = r.kept }

  -- The counter at the children of n, where their ranges follow one another.
  passed : ℕ → ℕ → ℕ
  passed n c = first t n + sum_below c (share t n)

  passed_none : (n : ℕ) → first t n ≡ passed n 0
  unfolding passed sum_below
  passed_none n = omega arith

  passed_child : (n c : ℕ) → is_child t n c ≡ true → passed n c + width t c ≡ passed n (suc c)
  unfolding passed sum_below
  passed_child n c e = omega (arith, share_child t n c e)

  passed_other : (n c : ℕ) → is_child t n c ≡ false → passed n (suc c) ≡ passed n c
  unfolding passed sum_below
  passed_other n c e = omega (arith, share_other t n c e)

  -- The children of a scheduler of kind 1 or 2.
  row_walked : (n : ℕ) (g : ℕ → Walk → Walk) (w : Walk) → n < t.nodes → t.kind n ≢ task → t.kind n ≢ fifo → w.counter ≡ first t n
      → ((c : ℕ) (v : Walk) → is_child t n c ≡ true → v.counter ≡ first t c → Walked t (Above t c) v (g c v) (first t c + width t c))
      → Walked t (Above t n) w (children t n t.nodes g w) (first t n + width t n)
  unfolding passed
  row_walked n g w h z k e f =
      counted_as t (ap (λ (x : ℕ). first t n + x) (sym (width_row t ok n h z k)))
      (gathered t n z (first_walked t n g w (passed n) (e ∙ passed_none n)
      (λ c v q ev.
      let p : first t c ≡ passed n c = first_row t ok n c q k in
      counted_as t (ap (λ (x : ℕ). x + width t c) p ∙ passed_child n c q) (f c v q (ev ∙ sym p)))
      (passed_other n) t.nodes))

  -- Kind 2: consecutive priorities, and the first of them is the threshold of each.
  two_walked : (n : ℕ) (w : Walk) → n < t.nodes → t.kind n ≡ non_preemptive → w.counter ≡ first t n
      → Walked t (Above t n) w (children t n t.nodes (λ c v. moved_on (given c w.counter v)) w) (first t n + width t n)
  two_walked n w h k e =
      row_walked n (λ c v. moved_on (given c w.counter v)) w h (λ z. omega arith) (λ z. omega arith) e (λ c v q ev.
      let i = child_at t n c q in
      let z = flat t ok has n c q (λ z. omega arith) in
      counted_as t (omega (arith, width_task t ok c i.0 z))
      (moved_walked (given_walked c w.counter v i.0 z ev (e ∙ sym (ceiling_shared t n c i.2 k)))))

  -- FIFO: one number for all.
  fifo_walked : (n : ℕ) (w : Walk) → n < t.nodes → t.kind n ≡ fifo → w.counter ≡ first t n
      → Walked t (Above t n) w (children t n t.nodes (λ c v. given c v.counter v) w) (first t n)
  fifo_walked n w h k e =
      gathered t n (λ z. omega arith) (first_walked t n (λ c v. given c v.counter v) w (λ c. first t n) e
      (λ c v q ev.
      let i = child_at t n c q in
      let p : v.counter ≡ first t c = ev ∙ sym (first_fifo t ok n c q k) in
      counted_as t ev (given_walked c v.counter v i.0 (flat t ok has n c q (λ z. omega arith)) p
      (p ∙ sym (ceiling_own t n c i.2 (λ z. omega arith)))))
      (λ c q. refl) t.nodes)

  -- It is as wide as one task, if it has one.
  pub width_some : (n : ℕ) → n < t.nodes → t.kind n ≡ fifo → (b : Bool) → some_below t.nodes (is_child t n) ≡ b → width t n ≡ cond b 1 0
  width_some n h k true e =
      let s = some_at t.nodes (is_child t n) e in
      omega (
        arith,
        width_fifo t ok n h k,
        sum_part s.0 t.nodes (share t n) s.1,
        share_child t n s.0 s.2,
        width_task t ok s.0 s.1 (flat t ok has n s.0 s.2 (λ z. omega arith)),
      )
  width_some n h k false e =
      omega (
        arith,
        width_fifo t ok n h k,
        sum_none t.nodes (share t n) (λ c l. share_other t n c (some_none t.nodes (is_child t n) e c l)),
      )

  visit_walked : (f n : ℕ) (w : Walk) → n < t.nodes → t.nodes ≤ n + f → (t.kind n ≡ task → ceiling t n ≡ first t n)
      → w.counter ≡ first t n → Walked t (Above t n) w (visit f t n w) (first t n + width t n)
  unfolding visit
  visit_walked zero n w h l p e = absurd (omega arith)
  visit_walked (suc f) n w h l p e = kinds (ℕ_discrete k task) (ℕ_discrete k preemptive) (ℕ_discrete k non_preemptive) (visit_walked f)
    where
      k : ℕ
      k = t.kind n

      shared : Walk
      shared = children t n t.nodes (λ c v. given c v.counter v) w

      fifos : k ≡ fifo → (b : Bool) → some_below t.nodes (is_child t n) ≡ b
          → Walked t (Above t n) w (cond b (moved_on shared) shared) (first t n + width t n)
      fifos q true b = counted_as t (omega (arith, width_some n h q true b)) (moved_walked (fifo_walked n w h q e))
      fifos q false b = counted_as t (omega (arith, width_some n h q false b)) (fifo_walked n w h q e)

      kinds : Dec (k ≡ task) → Dec (k ≡ preemptive) → Dec (k ≡ non_preemptive)
          → ((c : ℕ) (v : Walk) → c < t.nodes → t.nodes ≤ c + f → (t.kind c ≡ task → ceiling t c ≡ first t c)
          → v.counter ≡ first t c → Walked t (Above t c) v (visit f t c v) (first t c + width t c))
          → Walked t (Above t n) w (visit (suc f) t n w) (first t n + width t n)
      kinds (yes q) d d' g =
          rw q (counted_as t (omega (arith, width_task t ok n h q)) (moved_walked (given_walked n w.counter w h q e (e ∙ sym (p q)))))
      kinds (no z) (yes q) d' g = rw q (row_walked n (visit f t) w h z (λ z. omega arith) e (λ c v kc ev.
          let i = child_at t n c kc in
          let l' = child_lower t ok kc in
          g c v i.0 (omega arith) (λ x. ceiling_own t n c i.2 (λ y. omega arith)) ev))
      kinds (no z) (no z') (yes q) g = rw q (two_walked n w h q e)
      kinds (no z) (no z') (no z'') g =
          let q : t.kind n ≡ fifo = omega (arith, ok.kinds n h, no_slices t ok has n h) in
          rw q (fifos q (some_below t.nodes (is_child t n)) refl)

  unwalked_right : (d : ℕ) → is_task t d ≡ false → Right t d unwalked
  unfolding Right unwalked priority_of threshold_of
  unwalked_right d e = rw e (refl, refl)

  -- Every node shows its numbers in the end.
  walk_right : (d : ℕ) → Right t d (walk t)
  unfolding walk
  walk_right d = side (bool (is_task t d))
    where
      r : Walked t (Above t 0) unwalked (visit t.nodes t 0 unwalked) (first t 0 + width t 0)
      r =
          visit_walked t.nodes 0 unwalked ok.some (omega arith)
          (λ k. ceiling_own t 0 0 ok.root (λ z. omega arith)) (unfold unwalked in sym (first_root t ok))

      side : (is_task t d ≡ true) ⊎ (is_task t d ≡ false) → Right t d (visit t.nodes t 0 unwalked)
      side (inl e) = r.done d e (root_above t ok (task_at t d e).0)
      side (inr e) = r.kept d (unwalked_right d e)

  pub task_numbers : (d : ℕ) → is_task t d ≡ true → ((walk t).priority d ≡ first t d) × ((walk t).threshold d ≡ ceiling t d)
  unfolding Right priority_of threshold_of
  task_numbers d e = rw e at (walk_right d)

  pub other_numbers : (d : ℕ) → is_task t d ≡ false → ((walk t).priority d ≡ 255) × ((walk t).threshold d ≡ 255)
  unfolding Right priority_of threshold_of
  other_numbers d e = rw e at (walk_right d)

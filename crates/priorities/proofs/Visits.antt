-- What each kind of node owes. A task that is given its numbers has been visited. For a scheduler, each loop over its child list has an
-- invariant, with the laws of its turns: at the start, at a child, at another node, and at the end, where the scheduler has been visited.
-- Assumes nothing.
use Prim.Native.Nat.{ℕ, zero, suc, ◌+◌, ◌*◌, ◌≤◌, ◌<◌}
use mathlib.Core.Path.{◌≡◌, refl, sym, ◌∙◌, ap}
use mathlib.Core.Logic.{◌≢◌, ◌⊎◌, inl, inr}
use mathlib.Core.Bool.{true, false}
use mathlib.Core.List.{List}
use native.Mathlib.Omega.{arith}
use lib.ListN.{length, set, length-set}
use Rattle.rules.specs.Bounded.{some_below}
use Rattle.rules.specs.Table.{Tree, task, preemptive, non_preemptive, fifo, is_child}
use Rattle.rules.specs.Priorities.{Walk, given, moved_on, visit}
use Rattle.rules.proofs.Bools.{bool}
use Rattle.rules.proofs.Bounded.{some_at}
use Rattle.rules.proofs.Nodes.{child_at}
use Rattle.rules.proofs.Climbs.{child_lower}
use Rattle.rules.proofs.Widths.{width, first, width_task, width_row, first_fifo, first_row}
use Rattle.rules.proofs.Ranges.{flat}
use Rattle.rules.proofs.WalkIsClosed.{width_some}
use Rattle.priorities.specs.Numbering.{Shows, Ready, Visited}
use Rattle.priorities.proofs.ShownWalks.{shows_given, shows_moved, shows_once}
use Rattle.priorities.proofs.ChildLists.{Listed, listed_none, listed_child, listed_other, once}
use Rattle.priorities.proofs.Numbers.{passed, passed_none, passed_child, passed_other, ready_child, task_few}

-- The bytes after a task has been given priority d and threshold h.
abbrev giving : List ℕ → ℕ → ℕ → ℕ → List ℕ
giving out n d h = set (set out (n * 2) d) (n * 2 + 1) h

giving_length : (out : List ℕ) (n d h : ℕ) → length (giving out n d h) ≡ length out
giving_length out n d h = length-set (set out (n * 2) d) (n * 2 + 1) h ∙ length-set out (n * 2) d

-- Kind 1 visits each child; kind 2 gives the counter of the walk with which the list began as the threshold of each; at a FIFO the counter
-- stays.
abbrev pub KindOne : Tree → ℕ → List ℕ → ℕ → ℕ → List ℕ → ℕ → Type 0
KindOne t p = Listed t p (λ f w. visit f t) (passed t p)

abbrev pub KindTwo : Tree → ℕ → List ℕ → ℕ → ℕ → List ℕ → ℕ → Type 0
KindTwo t p = Listed t p (λ f w d v. moved_on (given d w.counter v)) (passed t p)

abbrev pub Fifo : Tree → ℕ → List ℕ → ℕ → ℕ → List ℕ → ℕ → Type 0
Fifo t p = Listed t p (λ f w d v. given d v.counter v) (λ j. first t p)

module _ (t : Tree) (old : List ℕ) (n c : ℕ) (r : Ready t old n c) where
  -- A node of the tree is visited with fuel.
  fuelled : (P : ℕ → Type 0) → ((f : ℕ) → t.nodes ≤ n + 1 + f → P (suc f)) → (f : ℕ) → t.nodes ≤ n + f → P f
  fuelled P g zero l = absurd (omega (arith, r.known))
  fuelled P g (suc f) l = g f (omega arith)

  visited : (new : List ℕ) (q : ℕ) → q ≡ first t n + width t n
      → ((f : ℕ) → t.nodes ≤ n + 1 + f → (rest : List ℕ) (w : Walk) → Shows t rest old c w → Shows t rest new q (visit (suc f) t n w))
      → Visited t n old c new q
  visited new q e g =
      record {
        walked = λ f rest w l s.
            fuelled (λ (f : ℕ). (rest : List ℕ) (w : Walk) → Shows t rest old c w → Shows t rest new q (visit f t n w)) g f l rest w s;
        counter = e;
      }

  pub task_visited : t.kind n ≡ task → Visited t n old c (giving old n c c) (c + 1)
  task_visited k =
      visited _ _ (omega (arith, r.counter, width_task t r.rooted n r.known k)) (λ f l rest w s.
      (unfold visit in rw k (shows_moved (shows_given s n c w.counter r.known s.counter))))

  row_width : t.kind n ≢ task → t.kind n ≢ fifo → (q : ℕ) → q ≡ passed t n t.nodes → q ≡ first t n + width t n
  unfolding passed
  row_width a b q e = e ∙ ap (λ (x : ℕ). first t n + x) (sym (width_row t r.rooted n r.known a b))

  -- Kind 1.
  module _ (k : t.kind n ≡ preemptive) where
    pub one_none : KindOne t n old c (n + 1) old c
    one_none = listed_none t n _ _ old c r.rooted (r.counter ∙ sym (passed_none t r.rooted n))

    module _ (j : ℕ) (new : List ℕ) (q : ℕ) (i : KindOne t n old c j new q) where
      pub one_ready : is_child t n j ≡ true → Ready t new j q
      unfolding passed
      one_ready e = ready_child t old n c r new i.size j q e (i.counter ∙ sym (first_row t r.rooted n j e (λ z. omega arith)))

      pub one_child : (last : List ℕ) (d : ℕ) → is_child t n j ≡ true → length last ≡ length new → Visited t j new q last d
          → KindOne t n old c (j + 1) last d
      one_child last d e z v =
          let l = child_lower t r.rooted e in
          listed_child t n _ _ old c j new q i last d e z
          (v.counter ∙ ap (λ (x : ℕ). x + width t j) (sym (one_ready e).counter ∙ i.counter) ∙ sym (passed_child t r.rooted n j e))
          (λ f rest w x b s y. v.walked f rest x (omega arith) y)

      pub one_other : is_child t n j ≡ false → KindOne t n old c (j + 1) new q
      one_other e = listed_other t n _ _ old c j new q i e (passed_other t r.rooted n j e)

    pub one_end : (new : List ℕ) (q : ℕ) → KindOne t n old c t.nodes new q → Visited t n old c new q
    one_end new q i =
        visited new q (row_width (λ z. omega arith) (λ z. omega arith) q i.counter) (λ f l rest w s.
        (unfold visit in rw k (i.walked f rest w l s)))

  -- Kind 2.
  module _ (k : t.kind n ≡ non_preemptive) where
    pub two_none : KindTwo t n old c (n + 1) old c
    two_none = listed_none t n _ _ old c r.rooted (r.counter ∙ sym (passed_none t r.rooted n))

    module _ (j : ℕ) (new : List ℕ) (q : ℕ) (i : KindTwo t n old c j new q) where
      -- The children are tasks, so their numbers fit a byte.
      pub two_few : is_child t n j ≡ true → (c ≤ q) × (q < 128)
      unfolding passed
      two_few e =
          let h = ready_child t old n c r new i.size j q e (i.counter ∙ sym (first_row t r.rooted n j e (λ z. omega arith))) in
          (omega (arith, i.counter, r.counter), task_few t new j q h (flat t r.rooted r.has n j e (λ z. omega arith)))

      pub two_child : is_child t n j ≡ true → KindTwo t n old c (j + 1) (giving new j q c) (q + 1)
      two_child e =
          let h = (child_at t n j e).0 in
          listed_child t n _ _ old c j new q i _ (q + 1) e (giving_length new j q c)
          (omega (
            arith,
            i.counter,
            passed_child t r.rooted n j e,
            width_task t r.rooted j h (flat t r.rooted r.has n j e (λ z. omega arith)),
          ))
          (λ f rest w v l s x. shows_moved (shows_given x j c w.counter h s.counter))

      pub two_other : is_child t n j ≡ false → KindTwo t n old c (j + 1) new q
      two_other e = listed_other t n _ _ old c j new q i e (passed_other t r.rooted n j e)

    pub two_end : (new : List ℕ) (q : ℕ) → KindTwo t n old c t.nodes new q → Visited t n old c new q
    two_end new q i =
        visited new q (row_width (λ z. omega arith) (λ z. omega arith) q i.counter) (λ f l rest w s.
        (unfold visit in rw k (i.walked f rest w l s)))

  -- FIFO.
  module _ (k : t.kind n ≡ fifo) where
    pub fifo_none : Fifo t n old c (n + 1) old c
    fifo_none = listed_none t n _ _ old c r.rooted r.counter

    -- A child is a task, so its number fits a byte.
    pub fifo_few : (j : ℕ) → is_child t n j ≡ true → c < 128
    fifo_few j e =
        let h = ready_child t old n c r old refl j c e (r.counter ∙ sym (first_fifo t r.rooted n j e k)) in
        task_few t old j c h (flat t r.rooted r.has n j e (λ z. omega arith))

    -- Moving on once passes no bound that the counter keeps, if the bound is above 128.
    pub fifo_fits : (j b : ℕ) → c < b → 128 < b → c + once t n j < b
    fifo_fits j b h l = side (bool (some_below j (is_child t n)))
      where
        side : (some_below j (is_child t n) ≡ true) ⊎ (some_below j (is_child t n) ≡ false) → c + once t n j < b
        side (inl e) = let d = some_at j (is_child t n) e in (unfold once in rw e (omega (arith, fifo_few d.0 d.2)))
        side (inr e) = (unfold once in rw e (omega arith))

    module _ (j : ℕ) (new : List ℕ) (i : Fifo t n old c j new c) where
      pub fifo_child : is_child t n j ≡ true → Fifo t n old c (j + 1) (giving new j c c) c
      fifo_child e =
          listed_child t n _ _ old c j new c i _ c e (giving_length new j c c) r.counter
          (λ f rest w v l s x. shows_given x j c v.counter (child_at t n j e).0 x.counter)

      pub fifo_other : is_child t n j ≡ false → Fifo t n old c (j + 1) new c
      fifo_other e = listed_other t n _ _ old c j new c i e refl

    fifo_width : (q : ℕ) → q ≡ c + once t n t.nodes → q ≡ first t n + width t n
    unfolding once
    fifo_width q e =
        omega (arith, r.counter, width_some t r.rooted r.has n r.known k (some_below t.nodes (is_child t n)) refl)

    pub fifo_end : (new : List ℕ) (m : ℕ) → m ≡ once t n t.nodes → Fifo t n old c t.nodes new c → Visited t n old c new (c + m)
    fifo_end new m e i =
        visited new (c + m) (fifo_width (c + m) (ap (λ (x : ℕ). c + x) e)) (λ f l rest w s.
        (unfold visit once in rw (k, e) (shows_once (i.walked f rest w l s) (some_below t.nodes (is_child t n)))))

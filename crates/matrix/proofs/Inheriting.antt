-- The way down for the locks: before node c's turn the words below c are right, and the others are as they were.
-- Assumes nothing.
use Prim.Native.Nat.{ℕ, ◌+◌, ◌≤◌, ◌<◌}
use mathlib.Core.Path.{◌≡◌, refl, ◌∙◌, sym}
use mathlib.Core.Logic.{◌≢◌, ◌⊎◌, inl, inr}
use mathlib.Core.Bool.{Bool, true, false, not, ◌&&◌, ◌||◌}
use mathlib.Core.List.{List}
use native.Mathlib.Decide.{ℕ_discrete}
use native.Mathlib.Omega.{arith}
use lib.Dec.{eqb, ltb}
use lib.ListN.{length, get_or, set}
use lib.Seq.{get_or-set_same, get_or-set_other}
use lib.Bits.{bit_or}
use borrow.Author.Tests.{eq-eqb, ne_eqb, eqb-true, ltb-true, lt-ltb}
use Rattle.rules.specs.Table as rules
use Rattle.rules.specs.Table.{Tree, blocking}
use Rattle.rules.specs.Reading.{table_at}
use Rattle.rules.specs.Accepted.{Rooted, Accepted}
use Rattle.rules.specs.Preemption.{at_or_below, climbs_to, is_ancestor}
use Rattle.rules.specs.Above.{Above, here, there}
use Rattle.rules.specs.Locks.{in_set}
use Rattle.rules.specs.Races.{illegal}
use Rattle.rules.proofs.Bools.{bool, or_cases, or_left, or_right}
use Rattle.rules.proofs.Nodes.{task_at}
use Rattle.rules.proofs.Climbs.{below_above}
use Rattle.table.specs.declared.Table.{Table}
use Rattle.table.specs.Answers.{shown}
use Rattle.matrix.specs.Matrix.{IllegalRows}
use Rattle.matrix.specs.Words.{Marked, Inherited, Blocking, NotOver, Unprovided}
use Rattle.rows.proofs.Bits.{has_or}
use Rattle.table.proofs.Bounds.{scheduler_at}
use Rattle.matrix.proofs.Stores.{same_test}

pub record InheritedBelow (t : Tree) (n : ℕ) (m₀ m : List ℕ) : Type 0 where
  pub done : (k a : ℕ) → ((c : ℕ) → c < t.nodes → in_set k (get_or m₀ c 0) ≡ eqb a c) → (c : ℕ) → c < n → in_set k (get_or m c 0) ≡ at_or_below t c a
  pub rest : (c : ℕ) → n ≤ c → get_or m c 0 ≡ get_or m₀ c 0

module _ (t : Tree) (ok : Rooted t) where
  at_or_above : {a c : ℕ} → Above t a c → (a ≡ c) ⊎ Above t a (t.parent c)
  at_or_above here = inl refl
  at_or_above (there h z u) = inr u

  -- A node is at or below a where it is a or its parent is at or below a.
  below_parent : (a c : ℕ) → c < t.nodes → c ≢ 0 → (eqb a c || at_or_below t (t.parent c) a) ≡ at_or_below t c a
  below_parent a c h z =
      same_test (eqb a c || at_or_below t (t.parent c) a) (at_or_below t c a) (λ e. into (or_cases (eqb a c) _ e))
      (λ e. back (at_or_above ((below_above t ok a c h).0 e)))
    where
      low : t.parent c < c
      low = ok.lower c h z

      into : (eqb a c ≡ true) ⊎ (at_or_below t (t.parent c) a ≡ true) → at_or_below t c a ≡ true
      into (inl e) = (below_above t ok a c h).1 (rw (eqb-true a c e) here)
      into (inr e) = (below_above t ok a c h).1 (there h z ((below_above t ok a (t.parent c) (omega (arith, low))).0 e))

      back : (a ≡ c) ⊎ Above t a (t.parent c) → (eqb a c || at_or_below t (t.parent c) a) ≡ true
      back (inl e) = or_left (eqb a c) _ (eq-eqb a c e)
      back (inr u) = or_right (eqb a c) _ ((below_above t ok a (t.parent c) (omega (arith, low))).1 u)

  root_below : (a : ℕ) → eqb a 0 ≡ at_or_below t 0 a
  unfolding at_or_below climbs_to
  root_below a = same_test (eqb a 0) (eqb 0 a) (λ e. eq-eqb 0 a (sym (eqb-true a 0 e))) (λ e. eq-eqb a 0 (sym (eqb-true 0 a e)))

  pub inherited_root : {m : List ℕ} → InheritedBelow t 1 m m
  inherited_root {m} = record { done = λ k a f c h. first k a f c (omega arith); rest = λ c h. refl }
    where
      first : (k a : ℕ) → ((c : ℕ) → c < t.nodes → in_set k (get_or m c 0) ≡ eqb a c) → (c : ℕ) → c ≡ 0 → in_set k (get_or m c 0) ≡ at_or_below t c a
      first k a f c z = rw z (f 0 (omega (arith, ok.some)) ∙ root_below a)

  pub inherited_next : {c p : ℕ} {m₀ m : List ℕ} → InheritedBelow t c m₀ m → 0 < c → c < t.nodes → p ≡ t.parent c → c < length m
      → InheritedBelow t (c + 1) m₀ (set m c (bit_or (get_or m c 0) (get_or m p 0)))
  inherited_next {c} {p} {m₀} {m} g z h e b = record { done = λ k a f d i. side k a f d i (ℕ_discrete d c); rest = later }
    where
      low : t.parent c < c
      low = ok.lower c h (omega arith)

      own : (k a : ℕ) → ((c : ℕ) → c < t.nodes → in_set k (get_or m₀ c 0) ≡ eqb a c) → in_set k (bit_or (get_or m c 0) (get_or m p 0)) ≡ at_or_below t c a
      own k a f =
          has_or k (get_or m c 0) (get_or m p 0)
          ∙ rw (g.rest c (omega arith), f c h, e, g.done k a f (t.parent c) low) (below_parent a c h (omega arith))

      side : (k a : ℕ) → ((c : ℕ) → c < t.nodes → in_set k (get_or m₀ c 0) ≡ eqb a c) → (d : ℕ) → d < c + 1 → Dec (d ≡ c)
          → in_set k (get_or (set m c (bit_or (get_or m c 0) (get_or m p 0))) d 0) ≡ at_or_below t d a
      side k a f d i (yes q) = rw (q, get_or-set_same m c (bit_or (get_or m c 0) (get_or m p 0)) 0 b) (own k a f)
      side k a f d i (no q) = rw (get_or-set_other m c d (bit_or (get_or m c 0) (get_or m p 0)) 0 q) (g.done k a f d (omega arith))

      later : (d : ℕ) → c + 1 ≤ d → get_or (set m c (bit_or (get_or m c 0) (get_or m p 0))) d 0 ≡ get_or m₀ d 0
      later d i = get_or-set_other m c d (bit_or (get_or m c 0) (get_or m p 0)) 0 (λ q. omega arith) ∙ g.rest d (omega arith)

  pub inherited_all : {n : ℕ} {m₀ m : List ℕ} → t.nodes ≤ n → InheritedBelow t n m₀ m → Inherited t m₀ m
  inherited_all h g = record { bits = λ k a i f c j. g.done k a f c (omega arith) }

-- A provider is a scheduler, so it is an ancestor of a task where the task is at or below it.
ancestor_is : (t : Tree) (a n : ℕ) → n ≢ a → is_ancestor t a n ≡ at_or_below t n a
unfolding is_ancestor
ancestor_is t a n d = rw (ne_eqb n a d)

module _ (t : rules.Table) (ok : Accepted t) (b : ℕ) (bs : Blocking t t.locks b) (own over : List ℕ)
    (mp : Marked 128 t.provider 0 t.locks own) (down : Inherited t.tree own over)
  where
    provides : (k x : ℕ) → k < t.locks → k < 32 → x < t.tree.nodes → in_set k (get_or over x 0) ≡ at_or_below t.tree x (t.provider k)
    provides k x h l i =
        down.bits k (t.provider k) (scheduler_at t.tree (t.provider k) (ok.providers k h)).0
        (λ c j. let z : 0 + k ≡ k = omega arith in mp.bits c k (omega arith) ∙ rw (z, lt-ltb k t.locks h)) x i

    lock_is : (i k w : ℕ) → i < t.accesses → k < 32 → NotOver (t.lock_set i) b (get_or over (t.task_of i) 0) w
        → in_set k w ≡ (ltb k t.locks && illegal t i k)
    unfolding illegal
    lock_is i k w h l u = u.bits k l ∙ rw (bs.bits k l) (side (bool (ltb k t.locks)))
      where
        x : ℕ
        x = t.task_of i

        none : (a : Bool) → ((a && false) && not (in_set k (get_or over (t.task_of i) 0))) ≡ false
        none true = refl
        none false = refl

        differ : k < t.locks → t.task_of i ≢ t.provider k
        differ m e = (scheduler_at t.tree (t.provider k) (ok.providers k m)).1 (rw (← e) (task_at t.tree (t.task_of i) (ok.tasks i h)).1)

        side : (ltb k t.locks ≡ true) ⊎ (ltb k t.locks ≡ false)
            → ((in_set k (t.lock_set i) && (ltb k t.locks && eqb (t.lock_kind k) blocking)) && not (in_set k (get_or over (t.task_of i) 0)))
            ≡ (ltb k t.locks && ((in_set k (t.lock_set i) && eqb (t.lock_kind k) blocking) && not (is_ancestor t.tree (t.provider k) (t.task_of i))))
        side (inl e) =
            let m = ltb-true k t.locks e in
            rw (
              e,
              provides k (t.task_of i) m l (task_at t.tree (t.task_of i) (ok.tasks i h)).0,
              ancestor_is t.tree (t.provider k) (t.task_of i) (differ m),
            )
        side (inr e) = rw e (none (in_set k (t.lock_set i)))

    pub locks_are : {rows₀ rows : List ℕ} → Unprovided t b over t.accesses rows₀ rows → IllegalRows t rows₀ rows
    locks_are {rows₀} {rows} f =
        record {
          words = λ i h.
              record {
                fits = (f.words i h).fits;
                bits = λ k l. let z : 0 + k ≡ k = omega arith in rw z (lock_is i k (get_or rows i 0) h l (f.words i h));
              };
          kept = f.kept;
        }

-- The same of the table that a struct shows.
pub illegal_rows_are : (t : Table) {b : ℕ} {own over rows₀ rows : List ℕ} → Accepted (shown t) → Blocking (shown t) t.locks b
    → Marked 128 (shown t).provider 0 t.locks own → Inherited (shown t).tree own over
    → Unprovided (shown t) b over t.accesses rows₀ rows → IllegalRows (shown t) rows₀ rows
unfolding shown table_at
illegal_rows_are t {b} {own} {over} ok bs mp down f = locks_are (shown t) ok b bs own over mp down f

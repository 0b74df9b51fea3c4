-- The way up: when the nodes from k on have given their words to their parents, a bit of node x has come to x and to each node that has x at
-- or below a child from k on. A node's children come after it, so its own word is whole when its turn comes.
-- Assumes nothing.
use Prim.Native.Nat.{ℕ, ◌+◌, ◌≤◌, ◌<◌}
use mathlib.Core.Path.{◌≡◌, ◌∙◌, sym}
use mathlib.Core.Logic.{◌≢◌, ◌↔◌, ◌⊎◌, inl, inr}
use mathlib.Core.Bool.{true, ◌||◌, cond}
use mathlib.Core.List.{List}
use native.Mathlib.Decide.{ℕ_discrete}
use native.Mathlib.Omega.{arith}
use lib.Dec.{eqb}
use lib.ListN.{length, get_or, set}
use lib.Bits.{bit_or}
use borrow.Author.Tests.{eq-eqb, ne_eqb, eqb-true}
use Rattle.rules.specs.Table.{Tree, is_child}
use Rattle.rules.specs.Accepted.{Rooted}
use Rattle.rules.specs.Preemption.{at_or_below}
use Rattle.rules.specs.Above.{Above, here}
use Rattle.rules.specs.Locks.{in_set}
use Rattle.rules.proofs.Bools.{or_cases, or_left, or_right}
use Rattle.rules.proofs.Nodes.{child_at, child_from}
use Rattle.rules.proofs.Climbs.{below_child, child_up, child_lower, below_above}
use Rattle.matrix.specs.Words.{Gathered}
use Rattle.rows.proofs.Bits.{has_or}
use Rattle.matrix.proofs.Stores.{added_at, same_test}

-- c is x, or x is at or below a child of c from k on.
abbrev Reaches : Tree → ℕ → ℕ → ℕ → Type 0
Reaches t k x c = (x ≡ c) ⊎ ((e : ℕ) × (k ≤ e) × (is_child t c e ≡ true) × Above t e x)

-- The bits before the turn of node k - 1.
pub record Climbed (t : Tree) (k : ℕ) (m₀ m : List ℕ) : Type 0 where
  pub bits : (j x : ℕ) → x < t.nodes → ((c : ℕ) → c < t.nodes → in_set j (get_or m₀ c 0) ≡ eqb x c)
      → (c : ℕ) → c < t.nodes → (in_set j (get_or m c 0) ≡ true) ↔ Reaches t k x c

module _ (t : Tree) (ok : Rooted t) where
  pub climbed_none : (k : ℕ) (m : List ℕ) → k ≡ t.nodes → Climbed t k m m
  climbed_none k m e = record { bits = λ j x h f c l. (λ b. inl (eqb-true x c (sym (f c l) ∙ b)), back j x c (f c l)) }
    where
      back : (j x c : ℕ) → in_set j (get_or m c 0) ≡ eqb x c → Reaches t k x c → in_set j (get_or m c 0) ≡ true
      back j x c f (inl q) = f ∙ eq-eqb x c q
      back j x c f (inr r) = absurd (omega (arith, (child_at t c r.0 r.2).0))

  wider : (k x c : ℕ) → Reaches t (k + 1) x c → Reaches t k x c
  wider k x c (inl q) = inl q
  wider k x c (inr r) = inr (r.0, omega (arith, r.1), r.2, r.3)

  -- All children of k come after it.
  whole : (k x : ℕ) → Above t k x → Reaches t (k + 1) x k
  whole k x u = side (below_child t u)
    where
      side : (x ≡ k) ⊎ ((c : ℕ) × (is_child t k c ≡ true) × Above t c x) → Reaches t (k + 1) x k
      side (inl q) = inl q
      side (inr r) = inr (r.0, omega (arith, child_lower t ok r.1), r.1, r.2)

  above : (k x c : ℕ) → Reaches t k x c → Above t c x
  above k x c (inl q) = rw q here
  above k x c (inr r) = child_up t r.2 r.3

  turn : (k p : ℕ) (m₀ m : List ℕ) → 0 < k → k < t.nodes → p ≡ t.parent k → p < length m → Climbed t (k + 1) m₀ m
      → (j x : ℕ) → x < t.nodes → ((c : ℕ) → c < t.nodes → in_set j (get_or m₀ c 0) ≡ eqb x c)
      → (c : ℕ) → c < t.nodes → (in_set j (get_or (set m p (bit_or (get_or m p 0) (get_or m k 0))) c 0) ≡ true) ↔ Reaches t k x c
  turn k p m₀ m z h e b f j x hx g c l = rw (added_at m p (get_or m k 0) c b) (side (ℕ_discrete p c))
    where
      here_too : Above t k x → in_set j (get_or m k 0) ≡ true
      here_too u = (f.bits j x hx g k h).1 (whole k x u)

      hit : p ≡ c → (in_set j (get_or m c 0) || in_set j (get_or m k 0)) ≡ true ↔ Reaches t k x c
      hit q = (λ b. into (or_cases _ _ b), back)
        where
          into : (in_set j (get_or m c 0) ≡ true) ⊎ (in_set j (get_or m k 0) ≡ true) → Reaches t k x c
          into (inl b) = wider k x c ((f.bits j x hx g c l).0 b)
          into (inr b) = inr (k, omega arith, child_from t c k h (omega arith) (sym e ∙ q), above (k + 1) x k ((f.bits j x hx g k h).0 b))

          last : (r : (e : ℕ) × (k ≤ e) × (is_child t c e ≡ true) × Above t e x) → Dec (r.0 ≡ k) → (in_set j (get_or m c 0) || in_set j (get_or m k 0)) ≡ true
          last r (yes d) = or_right (in_set j (get_or m c 0)) _ (here_too (rw d at r.3))
          last r (no d) = or_left (in_set j (get_or m c 0)) _ ((f.bits j x hx g c l).1 (inr (r.0, omega (arith, r.1), r.2, r.3)))

          back : Reaches t k x c → (in_set j (get_or m c 0) || in_set j (get_or m k 0)) ≡ true
          back (inl y) = or_left (in_set j (get_or m c 0)) _ ((f.bits j x hx g c l).1 (inl y))
          back (inr r) = last r (ℕ_discrete r.0 k)

      miss : p ≢ c → Reaches t k x c → Reaches t (k + 1) x c
      miss q (inl y) = inl y
      miss q (inr r) = inr (r.0, later, r.2, r.3)
        where
          not_k : r.0 ≢ k
          not_k d = q (e ∙ rw d at (child_at t c r.0 r.2).2)

          later : k + 1 ≤ r.0
          later = omega (arith, r.1, not_k)

      side : Dec (p ≡ c) → (in_set j (cond (eqb p c) (bit_or (get_or m c 0) (get_or m k 0)) (get_or m c 0)) ≡ true) ↔ Reaches t k x c
      side (yes q) = rw (eq-eqb p c q, has_or j (get_or m c 0) (get_or m k 0)) (hit q)
      side (no q) = rw (ne_eqb p c q) (λ b. wider k x c ((f.bits j x hx g c l).0 b), λ r. (f.bits j x hx g c l).1 (miss q r))

  pub climbed_next : {n k p : ℕ} {m₀ m : List ℕ} → Climbed t n m₀ m → n ≡ k + 1 → 0 < k → k < t.nodes → p ≡ t.parent k → p < length m
      → Climbed t k m₀ (set m p (bit_or (get_or m p 0) (get_or m k 0)))
  climbed_next {n} {k} {p} {m₀} {m} f q z h e b = record { bits = turn k p m₀ m z h e b (rw q at f) }

  pub climbed_all : {k : ℕ} {m₀ m : List ℕ} → k ≤ 1 → Climbed t k m₀ m → Gathered t m₀ m
  climbed_all {k} {m₀} {m} z f =
      record {
        bits = λ j x h g c l.
            same_test (in_set j (get_or m c 0)) (at_or_below t x c) (λ b. (below_above t ok c x h).1 (above k x c ((f.bits j x h g c l).0 b)))
            (λ b. (f.bits j x h g c l).1 (side x c (below_child t ((below_above t ok c x h).0 b))));
      }
    where
      side : (x c : ℕ) → (x ≡ c) ⊎ ((e : ℕ) × (is_child t c e ≡ true) × Above t e x) → Reaches t k x c
      side x c (inl q) = inl q
      side x c (inr r) = inr (r.0, omega (arith, (child_at t c r.0 r.1).1), r.1, r.2)

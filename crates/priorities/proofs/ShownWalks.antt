-- A buffer that shows a walk, two bytes a node and then other bytes: storing a task's two bytes gives the task its numbers in the walk that
-- is shown, and moving the counter on leaves the bytes.
-- Assumes nothing.
use Prim.Native.Nat.{ℕ, zero, suc, ◌+◌, ◌*◌, ◌≤◌, ◌<◌}
use mathlib.Core.Path.{◌≡◌, refl, sym, ◌∙◌, ap}
use mathlib.Core.Bool.{Bool, true, false, cond}
use mathlib.Core.List.{List, [], ◌∷◌, ◌++◌, append_assoc}
use native.Mathlib.Decide.{ℕ_discrete}
use native.Mathlib.Omega.{arith}
use lib.ListN.{length, take, set, replicate, length-append, length-set}
use lib.Seq.{set_at, set-append_left, length-take-le}
use borrow.Author.Tests.{eq-eqb, ne_eqb}
use Rattle.rules.specs.Table.{Tree}
use Rattle.rules.specs.Priorities.{Walk, unwalked, given, moved_on, shown}
use Rattle.priorities.specs.Numbering.{Shows}

pub length_shown : (w : Walk) (n : ℕ) → length (shown w n) ≡ n * 2
unfolding shown
length_shown w zero = refl
length_shown w (suc n) = omega (arith, length-append (shown w n) (w.priority n ∷ w.threshold n ∷ []), length_shown w n)

shown_moved : (w : Walk) (n : ℕ) → shown (moved_on w) n ≡ shown w n
unfolding shown moved_on
shown_moved w zero = refl
shown_moved w (suc n) = rw (shown_moved w n)

-- Two bytes stored after the first part of a list.
stored : (x : List ℕ) (a b c d k : ℕ) (y : List ℕ) → length x ≡ k → set (set (x ++ a ∷ b ∷ y) k c) (k + 1) d ≡ x ++ c ∷ d ∷ y
stored x a b c d k y e =
    let l : length (x ++ c ∷ []) ≡ k + 1 = omega (arith, length-append x (c ∷ [])) in
    rw (set_at x a (b ∷ y) c k e)
    (ap (λ (z : List ℕ). set z (k + 1) d) (sym (append_assoc x (c ∷ []) (b ∷ y)))
    ∙ set_at (x ++ c ∷ []) b y d (k + 1) l
    ∙ append_assoc x (c ∷ []) (d ∷ y))

-- Two bytes stored within the first part of a list.
stored_left : (x y : List ℕ) (k c d : ℕ) → k + 1 < length x → set (set (x ++ y) k c) (k + 1) d ≡ set (set x k c) (k + 1) d ++ y
stored_left x y k c d l =
    rw (set-append_left x y k c (omega arith)) (set-append_left (set x k c) y (k + 1) d (omega (arith, length-set x k c)))

-- A task has no bytes before its own.
given_above : (w : Walk) (n m h : ℕ) → n ≤ m → shown (given m h w) n ≡ shown w n
unfolding shown given
given_above w zero m h l = refl
given_above w (suc n) m h l =
    rw (ne_eqb n m (λ e. omega arith))
    (ap (λ (z : List ℕ). z ++ (w.priority n ∷ w.threshold n ∷ [])) (given_above w n m h (omega arith)))

-- What a task is given is stored at its two bytes.
shown_given : (w : Walk) (n m h : ℕ) → m < n → set (set (shown w n) (m * 2) w.counter) (m * 2 + 1) h ≡ shown (given m h w) n
unfolding shown
shown_given w zero m h l = absurd (omega arith)
shown_given w (suc n) m h l = side (ℕ_discrete m n) (shown_given w n m h)
  where
    side : Dec (m ≡ n) → (m < n → set (set (shown w n) (m * 2) w.counter) (m * 2 + 1) h ≡ shown (given m h w) n)
        → set (set (shown w n ++ (w.priority n ∷ w.threshold n ∷ [])) (m * 2) w.counter) (m * 2 + 1) h
        ≡ shown (given m h w) n ++ ((given m h w).priority n ∷ (given m h w).threshold n ∷ [])
    side (yes e) f =
        rw (e, given_above w n n h (omega arith)) (unfold given in rw (eq-eqb n n refl)
        (stored (shown w n) (w.priority n) (w.threshold n) w.counter h (n * 2) [] (length_shown w n)))
    side (no e) f =
        rw (← f (omega arith)) (unfold given in rw (ne_eqb n m (λ q. e (sym q)))
        (stored_left (shown w n) (w.priority n ∷ w.threshold n ∷ []) (m * 2) w.counter h (omega (arith, length_shown w n))))

module _ {t : Tree} {rest out : List ℕ} {c : ℕ} {w : Walk} (s : Shows t rest out c w) where
  pub shows_moved : Shows t rest out (c + 1) (moved_on w)
  shows_moved =
      record {
        bytes = s.bytes ∙ ap (λ (z : List ℕ). z ++ rest) (sym (shown_moved w t.nodes));
        counter = (unfold moved_on in ap (λ (x : ℕ). x + 1) s.counter);
      }

  pub shows_once : (b : Bool) → Shows t rest out (c + cond b 1 0) (cond b (moved_on w) w)
  shows_once true = shows_moved
  shows_once false = let z : c + 0 ≡ c = omega arith in rw z s

  pub shows_given : (m h g : ℕ) → m < t.nodes → h ≡ g → Shows t rest (set (set out (m * 2) c) (m * 2 + 1) h) c (given m g w)
  shows_given m h g l e =
      record {
        bytes =
            rw (s.bytes, s.counter, e)
            (stored_left (shown w t.nodes) rest (m * 2) w.counter g (omega (arith, length_shown w t.nodes))
            ∙ ap (λ (z : List ℕ). z ++ rest) (shown_given w t.nodes m g l));
        counter = (unfold given in s.counter);
      }

-- The buffer before the walk: one that has visited nothing shows 255, 255 for each node.
more : (k v : ℕ) → replicate k v ++ (v ∷ v ∷ []) ≡ replicate (k + 2) v
more zero v = refl
more (suc k) v = let z : suc k + 2 ≡ suc (k + 2) = omega arith in rw z (ap (λ (l : List ℕ). v ∷ l) (more k v))

pub blanked : (n : ℕ) (out : List ℕ) → n * 2 ≤ length out → replicate (length (take (n * 2) out)) 255 ≡ shown unwalked n
unfolding shown unwalked
blanked n out h = rw (length-take-le (n * 2) out h) (all n)
  where
    all : (n : ℕ) → replicate (n * 2) 255 ≡ shown unwalked n
    all zero = refl
    all (suc n) = let m : suc n * 2 ≡ n * 2 + 2 = omega arith in rw (m, ← all n) (sym (more (n * 2) 255))

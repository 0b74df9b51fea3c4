-- The holders of each lock, access by access: those that wait are not yet in the words, but when they are added for their set the words are
-- right up to here.
-- Assumes nothing.
use Prim.Native.Nat.{ℕ, ◌+◌, ◌^◌, ◌<◌}
use mathlib.Core.Path.{◌≡◌, refl, ap, sym, ◌∙◌}
use mathlib.Core.Bool.{Bool, true, false, ◌&&◌, ◌||◌, cond}
use mathlib.Core.List.{List}
use native.Mathlib.Omega.{arith}
use lib.Dec.{ltb}
use lib.ListN.{length, get_or, replicate}
use lib.Bits.{bit_and, bit_or}
use borrow.Author.Tests.{le-ltb}
use Rattle.rules.specs.Locks.{in_set}
use Rattle.matrix.specs.Words.{Held, Holders}
use Rattle.rows.proofs.Bits.{has_zero, has_and, has_or}
use Rattle.matrix.proofs.Stores.{bit_added, no_words}
use Rattle.matrix.proofs.Guarding.{Holding}

pub record Waiting (sets : ℕ → ℕ) (base n b set waiting : ℕ) (g : List ℕ) : Type 0 where
  pub sized : length g ≡ 32
  pub bits : (k j : ℕ) → j < 64 → in_set j (Holding waiting set g k) ≡ (ltb j n && (in_set k (sets (base + j)) && in_set k b))

pub waiting_none : (sets : ℕ → ℕ) (base b : ℕ) (g : List ℕ) → g ≡ replicate 32 0 → Waiting sets base 0 b 0 0 g
waiting_none sets base b g e =
    record { sized = ap length e; bits = λ k j l. rw (has_zero k, e, le-ltb j 0 (omega arith)) (no_words 32 k j) }

module _ {sets : ℕ → ℕ} {base j b s x set waiting v : ℕ} {g : List ℕ} (e : s ≡ sets (base + j)) (d : x ≡ bit_and s b) (z : v ≡ 2 ^ j)
    (f : Waiting sets base j b set waiting g)
  where
    holds : (k i : ℕ) → i ≡ j → (in_set k (sets (base + i)) && in_set k b) ≡ in_set k x
    holds k i q = rw (q, ← e, d) (sym (has_and k s b))

    -- Access j holds what those that wait hold: it waits too.
    pub waiting_same : x ≡ set → Waiting sets base (j + 1) b set (bit_or waiting v) g
    waiting_same q =
        record {
          sized = f.sized;
          bits = λ k i l. one_more (get_or g k 0) i (in_set k set) ∙ rw z (bit_added (Holding waiting set g k) i j (in_set k set) _ (f.bits k i l) (λ h. rw (← q) (holds k i h)));
        }
      where
        or_or : (a c h : Bool) → (a || (c || h)) ≡ ((a || c) || h)
        or_or true c h = refl
        or_or false c h = refl

        one_more : (w i : ℕ) (q : Bool)
            → in_set i (cond q (bit_or w (bit_or waiting v)) w) ≡ in_set i (cond q (bit_or (cond q (bit_or w waiting) w) v) (cond q (bit_or w waiting) w))
        one_more w i true =
            rw (has_or i w (bit_or waiting v), has_or i waiting v, has_or i (bit_or w waiting) v, has_or i w waiting)
            (or_or (in_set i w) (in_set i waiting) (in_set i v))
        one_more w i false = refl

    -- It holds something else: the others are added, and it waits alone.
    pub waiting_next : {g' : List ℕ} → Held waiting set g g' → Waiting sets base (j + 1) b x v g'
    waiting_next {g'} a =
        record {
          sized = a.sized;
          bits = λ k i l. rw (a.words k, z) (bit_added (Holding waiting set g k) i j (in_set k x) _ (f.bits k i l) (holds k i));
        }

pub waiting_done : {sets : ℕ → ℕ} {base n b set waiting : ℕ} {g g' : List ℕ} → Waiting sets base n b set waiting g → Held waiting set g g'
    → Holders sets base n b g'
waiting_done f a = record { sized = a.sized; bits = λ k j l. rw (a.words k) (f.bits k j l) }

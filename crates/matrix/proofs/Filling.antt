-- Words stored one after the other: those before i are right, those from i on are as they were.
-- Assumes nothing.
use Prim.Native.Nat.{ℕ, ◌+◌, ◌-◌, ◌≤◌, ◌<◌}
use mathlib.Core.Path.{◌≡◌, refl, ap, ◌∙◌}
use mathlib.Core.List.{List, ◌++◌}
use native.Mathlib.Decide.{ℕ_discrete}
use native.Mathlib.Omega.{arith}
use lib.ListN.{length, get_or, set, take, drop, replicate, length-set, length-append, length-drop, length-replicate, get_or-append}
use lib.Seq.{get_or-set_same, get_or-set_other}
use lib.Bits.{bit_and}
use Rattle.std.proofs.lemmas.List.{length-take-le, get_or-replicate, get_or-append_right, get_or-drop}
use Rattle.rules.specs.Table.{Table}
use Rattle.rows.specs.Rows.{Kept}
use Rattle.matrix.specs.Words.{Unguarded, Filled, Cleared, NotOver, Unprovided}

-- P holds of each of the first i words.
words_next : (P : ℕ → ℕ → Type 0) (i v : ℕ) (rows : List ℕ) → i < length rows → P i v → ((k : ℕ) → k < i → P k (get_or rows k 0))
    → (k : ℕ) → k < i + 1 → P k (get_or (set rows i v) k 0)
words_next P i v rows b p f k h = side (ℕ_discrete k i)
  where
    side : Dec (k ≡ i) → P k (get_or (set rows i v) k 0)
    side (yes e) = rw (e, get_or-set_same rows i v 0 b) p
    side (no e) = rw (get_or-set_other rows i k v 0 e) (f k (omega arith))

kept_next : {i : ℕ} (v : ℕ) {rows₀ rows : List ℕ} → Kept i rows₀ rows → Kept (i + 1) rows₀ (set rows i v)
kept_next {i} v {rows₀} {rows} f =
    record { sized = rw length-set f.sized; words = λ k h. get_or-set_other rows i k v 0 (λ e. omega arith) ∙ f.words k (omega arith) }

kept_all : {rows : List ℕ} → Kept 0 rows rows
kept_all = record { sized = refl; words = λ k h. refl }

pub filled_none : {t : Table} {same pre g rows : List ℕ} → Filled t same pre g 0 rows rows
filled_none = record { words = λ k h. absurd (omega arith); kept = kept_all }

pub filled_next : {t : Table} {same pre g rows₀ rows : List ℕ} {i x r s v : ℕ} → i < length rows → x ≡ t.task_of i → r ≡ t.resource_of i
    → s ≡ t.lock_set i → Unguarded g (bit_and (get_or same r 0) (get_or pre x 0)) s v → Filled t same pre g i rows₀ rows
    → Filled t same pre g (i + 1) rows₀ (set rows i v)
filled_next {t} {same} {pre} {g} {rows₀} {rows} {i} {x} {r} {s} {v} b ex er es u f =
    record {
      words = words_next
          (λ k w. Unguarded g (bit_and (get_or same (t.resource_of k) 0) (get_or pre (t.task_of k) 0)) (t.lock_set k) w)
          i v rows b (rw (ex, er, es) at u) f.words;
      kept = kept_next v f.kept;
    }

-- Zeros before the words from n on.
pub cleared : {n : ℕ} {rows zeros : List ℕ} → n ≤ length rows → zeros ≡ replicate (length (take n rows)) 0 → Cleared n rows (zeros ++ drop n rows)
cleared {n} {rows} {zeros} b e =
    record {
      words = λ i h.
          let l : i < length zeros = omega (arith, long) in
          get_or-append zeros (drop n rows) 0 i l ∙ rw all (get_or-replicate n i 0 0 h);
      kept = record {
        sized = omega (arith, length-append zeros (drop n rows), length-drop n rows, long);
        words = λ i h. let z : n + (i - n) ≡ i = omega arith in get_or-append_right zeros (drop n rows) n i 0 long h ∙ rw z at (get_or-drop n rows (i - n) 0);
      };
    }
  where
    all : zeros ≡ replicate n 0
    all = rw (length-take-le n rows b) at e

    long : length zeros ≡ n
    long = ap length all ∙ length-replicate n 0

pub unprovided_none : {t : Table} {b : ℕ} {over rows : List ℕ} → Unprovided t b over 0 rows rows
unprovided_none = record { words = λ k h. absurd (omega arith); kept = kept_all }

pub unprovided_next : {t : Table} {b : ℕ} {over rows₀ rows : List ℕ} {i x s v : ℕ} → i < length rows → x ≡ t.task_of i → s ≡ t.lock_set i
    → NotOver s b (get_or over x 0) v → Unprovided t b over i rows₀ rows → Unprovided t b over (i + 1) rows₀ (set rows i v)
unprovided_next {t} {b} {over} {rows₀} {rows} {i} {x} {s} {v} l ex es u f =
    record {
      words = words_next (λ k w. NotOver (t.lock_set k) b (get_or over (t.task_of k) 0) w) i v rows l (rw (ex, es) at u) f.words;
      kept = kept_next v f.kept;
    }

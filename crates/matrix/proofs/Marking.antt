-- The words that are made from one record after the other: after record j they are right up to j.
-- Assumes nothing.
use Prim.Native.Nat.{ℕ, ◌+◌, ◌*◌, ◌^◌, ◌%◌, ◌<◌}
use mathlib.Core.Path.{◌≡◌, ap, ◌∙◌}
use mathlib.Core.List.{List}
use native.Mathlib.Omega.{arith}
use native.Mathlib.Nat.{one-mul, mod-eq_of_lt}
use lib.Pow.{pow-lt}
use lib.Dec.{eqb}
use lib.ListN.{length, get_or, set, replicate, length-set, length-replicate}
use lib.Bits.{bit_or}
use borrow.Author.Tests.{le-ltb}
use Rattle.rules.specs.Table.{Table, blocking}
use Rattle.matrix.specs.Words.{Marked, Blocking, add_lock}
use Rattle.rows.proofs.Bits.{has_zero}
use Rattle.matrix.proofs.Stores.{added_at, bit_added, no_words}

pub marked_none : (w : ℕ) (key : ℕ → ℕ) (base : ℕ) (m : List ℕ) → m ≡ replicate w 0 → Marked w key base 0 m
marked_none w key base m e =
    record { sized = ap length e ∙ length-replicate w 0; bits = λ c j l. rw (e, le-ltb j 0 (omega arith)) (no_words w c j) }

pub marked_next : {n : ℕ} {key : ℕ → ℕ} {base j q v : ℕ} {m : List ℕ} → Marked n key base j m → q ≡ key (base + j) → v ≡ 2 ^ j → q < n
    → Marked n key base (j + 1) (set m q (bit_or (get_or m q 0) v))
marked_next {n} {key} {base} {j} {q} {v} {m} f e w b =
    record {
      sized = rw length-set f.sized;
      bits = λ c i l.
          rw (added_at m q v c (rw f.sized b), w) (bit_added (get_or m c 0) i j (eqb q c) (eqb (key (base + i)) c) (f.bits c i l) (λ d. rw (d, e)));
    }

pub blocking_none : (t : Table) → Blocking t 0 0
blocking_none t = record { bits = λ k h. rw (le-ltb k 0 (omega arith)) (has_zero k) }

pub blocking_next : {t : Table} {k b r : ℕ} → r ≡ add_lock (eqb (t.lock_kind k) blocking) k b → Blocking t k b → Blocking t (k + 1) r
unfolding add_lock
blocking_next {t} {k} {b} {r} e f =
    record { bits = λ i h. rw e (bit_added b i k (eqb (t.lock_kind k) blocking) (eqb (t.lock_kind i) blocking) (f.bits i h) (λ d. rw d)) }

-- Bit k of a word of 32, moved there.
pub one_lock : (k : ℕ) → k < 32 → 1 * 2 ^ k % 2 ^ 32 ≡ 2 ^ k
one_lock k h = rw one-mul (mod-eq_of_lt (pow-lt {j = 32} h))

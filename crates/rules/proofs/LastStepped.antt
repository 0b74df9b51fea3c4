-- The task that stepped last: all tasks are idle, or going through their places finds an active one that none has stepped after.
-- Assumes nothing.
use Prim.Native.Nat.{ℕ, zero, suc, ◌≤◌, ◌<◌}
use mathlib.Core.Path.{◌≡◌}
use mathlib.Core.Logic.{◌≢◌, ◌⊎◌, inl, inr}
use mathlib.Core.List.{List}
use native.Mathlib.Nat.{not-suc-le-zero}
use native.Mathlib.Decide.{ℕ_discrete, dec_le}
use native.Mathlib.Omega.{arith}
use Rattle.rules.specs.Machine.{place, idle}

-- All below m are idle.
abbrev pub AllIdle : List ℕ → ℕ → Type 0
AllIdle s m = (u : ℕ) → u < m → place s u ≡ idle

-- An active task such that no active one below m has stepped later.
pub record Last (s : List ℕ) (time : ℕ → ℕ) (m : ℕ) : Type 0 where
  pub task : ℕ
  pub active : place s task ≢ idle
  pub last : (u : ℕ) → u < m → place s u ≢ idle → time u ≤ time task

one_more : (P : ℕ → Type 0) (m : ℕ) → ((u : ℕ) → u < m → P u) → P m → (u : ℕ) → u < suc m → P u
one_more P m f p u h = side (ℕ_discrete u m)
  where
    side : Dec (u ≡ m) → P u
    side (yes q) = rw q p
    side (no q) = f u (omega arith)

-- All are idle, or one has stepped last.
pub find_last : (s : List ℕ) (time : ℕ → ℕ) (m : ℕ) → AllIdle s m ⊎ Last s time m
find_last s time zero = inl (λ u h. absurd (not-suc-le-zero h))
find_last s time (suc m) = side (ℕ_discrete (place s m) idle) (find_last s time m)
  where
    is_last : (x : ℕ) → place s x ≢ idle → ((u : ℕ) → u < m → place s u ≢ idle → time u ≤ time x)
        → (place s m ≢ idle → time m ≤ time x) → Last s time (suc m)
    is_last x z f h = record { task = x; active = z; last = one_more (λ u. place s u ≢ idle → time u ≤ time x) m f h }

    later : place s m ≢ idle → (l : Last s time m) → Dec (time m ≤ time l.task) → Last s time (suc m)
    later z l (yes h) = is_last l.task l.active l.last (λ n. h)
    later z l (no h) = is_last m z (λ u k n. omega (arith, l.last u k n)) (λ n. omega arith)

    side : Dec (place s m ≡ idle) → AllIdle s m ⊎ Last s time m → AllIdle s (suc m) ⊎ Last s time (suc m)
    side (yes z) (inl f) = inl (one_more (λ u. place s u ≡ idle) m f z)
    side (yes z) (inr l) = inr (is_last l.task l.active l.last (λ n. absurd (n z)))
    side (no z) (inl f) = inr (is_last m z (λ u h n. absurd (n (f u h))) (λ n. omega arith))
    side (no z) (inr l) = inr (later z l (dec_le (time m) (time l.task)))

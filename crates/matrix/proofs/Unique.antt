-- The contract of each public function leaves one answer, and one content of each lent array: a word is fixed by its bits, and those past the
-- accesses are as they were.
-- Assumes nothing.
use contract.Lifetimes.{Lfts}
use denote.Triple.Clauses.{AtExit}
use borrow.Fn.Kinds.{Dens, res_t, ended_of}
use Prim.Native.Nat.{ℕ, ◌<◌}
use mathlib.Core.Path.{◌≡◌, sym, ◌∙◌}
use mathlib.Core.Logic.{◌⊎◌, inl, inr}
use mathlib.Core.Bool.{Bool, true, false}
use mathlib.Core.List.{List}
use lib.Dec.{ltb}
use lib.ListN.{get_or}
use lib.Seq.{ext_get_or}
use borrow.Author.Tests.{ltb-true, ltb-false}
use Rattle.rules.proofs.Bools.{bool}
use Rattle.rows.specs.Rows.{Row, Kept}
use Rattle.rows.proofs.Bits.{same_bits}
use Rattle.matrix.proofs.race_rows.Kinds as race-rows-kinds
use Rattle.matrix.proofs.race_rows.Reads as race-rows-reads
use Rattle.matrix.proofs.illegal.illegal_rows.Kinds as illegal-rows-kinds
use Rattle.matrix.proofs.illegal.illegal_rows.Reads as illegal-rows-reads

same_row : (w : ℕ) (p : ℕ → Bool) (b n x y : ℕ) → Row w p b n x → Row w p b n y → x ≡ y
same_row w p b n x y f g = same_bits w x y f.fits g.fits (λ j h. f.bits j h ∙ sym (g.bits j h))

-- Lists of words that agree in the first m, and past them with a third, are equal.
same_rows : (w : ℕ) (p : ℕ → ℕ → Bool) (b n m : ℕ) (l₀ l₁ l₂ : List ℕ) → ((i : ℕ) → i < m → Row w (p i) b n (get_or l₁ i 0)) → Kept m l₀ l₁
    → ((i : ℕ) → i < m → Row w (p i) b n (get_or l₂ i 0)) → Kept m l₀ l₂ → l₁ ≡ l₂
same_rows w p b n m l₀ l₁ l₂ f k g h = ext_get_or 0 l₁ l₂ (k.sized ∙ sym h.sized) (λ i l. side i (bool (ltb i m)))
  where
    side : (i : ℕ) → (ltb i m ≡ true) ⊎ (ltb i m ≡ false) → get_or l₁ i 0 ≡ get_or l₂ i 0
    side i (inl e) = let z = ltb-true i m e in same_row w (p i) b n (get_or l₁ i 0) (get_or l₂ i 0) (f i z) (g i z)
    side i (inr e) = let z = ltb-false i m e in k.words i z ∙ sym (h.words i z)

pub race_rows_unique :
    (κs : Lfts 3) (a : Dens κs race-rows-kinds.ps) (r₁ r₂ : (res_t race-rows-kinds.r κs).Denot)
    (s₁ s₂ : AtExit (ended_of 3 race-rows-kinds.ps race-rows-kinds.r) κs)
    → race-rows-reads.Post κs a r₁ s₁ → race-rows-reads.Post κs a r₂ s₂ → (s₁.1.0.now.low ≡ s₂.1.0.now.low) × (s₁.1.0.now.high ≡ s₂.1.0.now.high)
race_rows_unique κs a r₁ r₂ s₁ s₂ p q = (
  same_rows 64 _ 0 _ _ _ _ _ p.lows p.low_kept q.lows q.low_kept,
  same_rows 64 _ 64 _ _ _ _ _ p.highs p.high_kept q.highs q.high_kept,
)

pub illegal_rows_unique :
    (κs : Lfts 3) (a : Dens κs illegal-rows-kinds.ps) (r₁ r₂ : (res_t illegal-rows-kinds.r κs).Denot)
    (s₁ s₂ : AtExit (ended_of 3 illegal-rows-kinds.ps illegal-rows-kinds.r) κs)
    → illegal-rows-reads.Post κs a r₁ s₁ → illegal-rows-reads.Post κs a r₂ s₂ → (s₁.1.0.now.low ≡ s₂.1.0.now.low) × (s₁.1.0.now.high ≡ s₂.1.0.now.high)
illegal_rows_unique κs a r₁ r₂ s₁ s₂ p q = (
  same_rows 32 _ 0 _ _ _ _ _ p.0.words p.0.kept q.0.words q.0.kept,
  p.1 ∙ sym q.1,
)

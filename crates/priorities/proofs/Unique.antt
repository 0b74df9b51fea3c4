-- The contract of `thresholds` leaves one answer and one content of the buffer.
-- Assumes nothing.
use contract.Lifetimes.{Lfts}
use denote.Triple.Clauses.{AtExit}
use borrow.Fn.Kinds.{Dens, res_t, ended_of}
use mathlib.Core.Path.{◌≡◌, sym, ◌∙◌}
use Rattle.table.proofs.Lefts.{left_same}
use Rattle.priorities.proofs.thresholds.Kinds as kinds
use Rattle.priorities.proofs.thresholds.Reads as reads

pub thresholds_unique :
    (κs : Lfts 2) (a : Dens κs kinds.ps) (r₁ r₂ : (res_t kinds.r κs).Denot) (s₁ s₂ : AtExit (ended_of 2 kinds.ps kinds.r) κs)
    → reads.Post κs a r₁ s₁ → reads.Post κs a r₂ s₂ → (r₁ ≡ r₂) × (s₁.1.0.now ≡ s₂.1.0.now)
thresholds_unique κs a r₁ r₂ s₁ s₂ p q = left_same r₁ r₂ _ _ (p ∙ sym q)

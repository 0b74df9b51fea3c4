-- The contract of the storing leaves one answer, and one content of the buffer.
-- Assumes nothing.
use contract.Lifetimes.{Lfts}
use denote.Triple.Clauses.{AtExit}
use borrow.Fn.Kinds.{Dens, res_t, ended_of}
use mathlib.Core.Path.{◌≡◌}
use Rattle.rows.proofs.Written.{wrote_same}
use Rattle.store.proofs.store_line.Kinds as store-line-kinds
use Rattle.store.proofs.store_line.Reads as store-line-reads

pub store_line_unique :
    (κs : Lfts 3) (a : Dens κs store-line-kinds.ps) (r₁ r₂ : (res_t store-line-kinds.r κs).Denot)
    (s₁ s₂ : AtExit (ended_of 3 store-line-kinds.ps store-line-kinds.r) κs)
    → store-line-reads.Post κs a r₁ s₁ → store-line-reads.Post κs a r₂ s₂ → (r₁ ≡ r₂) × (s₁.0.now ≡ s₂.0.now)
store_line_unique κs a r₁ r₂ s₁ s₂ p q = wrote_same p q

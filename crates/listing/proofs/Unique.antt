-- The contract of the listing call leaves one answer and one content of the buffer.
-- Assumes nothing.
use contract.Lifetimes.{Lfts}
use denote.Triple.Clauses.{AtExit}
use borrow.Fn.Kinds.{Dens, res_t, ended_of}
use mathlib.Core.Path.{◌≡◌, sym, ◌∙◌}
use Rattle.table.proofs.Lefts.{left_same}
use Rattle.listing.proofs.listing.Kinds as listing-kinds
use Rattle.listing.proofs.listing.Reads as listing-reads

pub listing_unique :
    (κs : Lfts 2) (a : Dens κs listing-kinds.ps) (r₁ r₂ : (res_t listing-kinds.r κs).Denot)
    (s₁ s₂ : AtExit (ended_of 2 listing-kinds.ps listing-kinds.r) κs)
    → listing-reads.Post κs a r₁ s₁ → listing-reads.Post κs a r₂ s₂ → (r₁ ≡ r₂) × (s₁.1.0.now ≡ s₂.1.0.now)
listing_unique κs a r₁ r₂ s₁ s₂ p q = left_same r₁ r₂ _ _ (p ∙ sym q)

-- The contract of each test leaves one answer.
-- Assumes nothing.
use contract.Lifetimes.{Lfts}
use denote.Triple.Clauses.{AtExit}
use borrow.Fn.Kinds.{Dens, res_t, ended_of}
use mathlib.Core.Path.{◌≡◌, sym, ◌∙◌}
use Rattle.pairs.proofs.is_race.Kinds as is-race-kinds
use Rattle.pairs.proofs.is_race.Reads as is-race-reads
use Rattle.pairs.proofs.is_illegal.Kinds as is-illegal-kinds
use Rattle.pairs.proofs.is_illegal.Reads as is-illegal-reads

pub is_race_unique :
    (κs : Lfts 2) (a : Dens κs is-race-kinds.ps) (r₁ r₂ : (res_t is-race-kinds.r κs).Denot) (s₁ s₂ : AtExit (ended_of 2 is-race-kinds.ps is-race-kinds.r) κs)
    → is-race-reads.Post κs a r₁ s₁ → is-race-reads.Post κs a r₂ s₂ → r₁ ≡ r₂
is_race_unique κs a r₁ r₂ s₁ s₂ p q = p ∙ sym q

pub is_illegal_unique :
    (κs : Lfts 2) (a : Dens κs is-illegal-kinds.ps) (r₁ r₂ : (res_t is-illegal-kinds.r κs).Denot) (s₁ s₂ : AtExit (ended_of 2 is-illegal-kinds.ps is-illegal-kinds.r) κs)
    → is-illegal-reads.Post κs a r₁ s₁ → is-illegal-reads.Post κs a r₂ s₂ → r₁ ≡ r₂
is_illegal_unique κs a r₁ r₂ s₁ s₂ p q = p ∙ sym q

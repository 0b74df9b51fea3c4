-- The contract of each public function leaves one answer.
-- Assumes nothing.
use contract.Lifetimes.{Lfts}
use denote.Triple.Clauses.{AtExit}
use borrow.Fn.Kinds.{Dens, res_t, ended_of}
use mathlib.Core.Path.{◌≡◌, sym, ◌∙◌}
use Rattle.locks.proofs.in_set.Kinds as in-set-kinds
use Rattle.locks.proofs.in_set.Reads as in-set-reads
use Rattle.locks.proofs.masked.Kinds as masked-kinds
use Rattle.locks.proofs.masked.Reads as masked-reads
use Rattle.locks.proofs.blocked.Kinds as blocked-kinds
use Rattle.locks.proofs.blocked.Reads as blocked-reads

pub in_set_unique :
    (κs : Lfts 0) (a : Dens κs in-set-kinds.ps) (r₁ r₂ : (res_t in-set-kinds.r κs).Denot) (s₁ s₂ : AtExit (ended_of 0 in-set-kinds.ps in-set-kinds.r) κs)
    → in-set-reads.Post κs a r₁ s₁ → in-set-reads.Post κs a r₂ s₂ → r₁ ≡ r₂
in_set_unique κs a r₁ r₂ s₁ s₂ p q = p ∙ sym q

pub masked_unique :
    (κs : Lfts 2) (a : Dens κs masked-kinds.ps) (r₁ r₂ : (res_t masked-kinds.r κs).Denot) (s₁ s₂ : AtExit (ended_of 2 masked-kinds.ps masked-kinds.r) κs)
    → masked-reads.Post κs a r₁ s₁ → masked-reads.Post κs a r₂ s₂ → r₁ ≡ r₂
masked_unique κs a r₁ r₂ s₁ s₂ p q = p ∙ sym q

pub blocked_unique :
    (κs : Lfts 2) (a : Dens κs blocked-kinds.ps) (r₁ r₂ : (res_t blocked-kinds.r κs).Denot) (s₁ s₂ : AtExit (ended_of 2 blocked-kinds.ps blocked-kinds.r) κs)
    → blocked-reads.Post κs a r₁ s₁ → blocked-reads.Post κs a r₂ s₂ → r₁ ≡ r₂
blocked_unique κs a r₁ r₂ s₁ s₂ p q = p ∙ sym q

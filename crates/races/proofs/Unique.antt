-- The contract of each public function leaves one answer, and one content of the buffer.
-- Assumes nothing.
use contract.Lifetimes.{Lfts}
use denote.Triple.Clauses.{AtExit}
use borrow.Fn.Kinds.{Dens, res_t, ended_of}
use mathlib.Core.Path.{◌≡◌, sym, ◌∙◌}
use Rattle.table.proofs.Lefts.{left_same}
use Rattle.races.proofs.list_races.Kinds as list-races-kinds
use Rattle.races.proofs.list_races.Reads as list-races-reads
use Rattle.races.proofs.list_illegal.Kinds as list-illegal-kinds
use Rattle.races.proofs.list_illegal.Reads as list-illegal-reads
use Rattle.races.proofs.races.Kinds as races-kinds
use Rattle.races.proofs.races.Reads as races-reads
use Rattle.races.proofs.illegal.Kinds as illegal-kinds
use Rattle.races.proofs.illegal.Reads as illegal-reads

pub list_races_unique :
    (κs : Lfts 3) (a : Dens κs list-races-kinds.ps) (r₁ r₂ : (res_t list-races-kinds.r κs).Denot) (s₁ s₂ : AtExit (ended_of 3 list-races-kinds.ps list-races-kinds.r) κs)
    → list-races-reads.Post κs a r₁ s₁ → list-races-reads.Post κs a r₂ s₂ → (r₁ ≡ r₂) × (s₁.1.0.now ≡ s₂.1.0.now)
list_races_unique κs a r₁ r₂ s₁ s₂ p q = left_same r₁ r₂ _ _ (p ∙ sym q)

pub list_illegal_unique :
    (κs : Lfts 3) (a : Dens κs list-illegal-kinds.ps) (r₁ r₂ : (res_t list-illegal-kinds.r κs).Denot) (s₁ s₂ : AtExit (ended_of 3 list-illegal-kinds.ps list-illegal-kinds.r) κs)
    → list-illegal-reads.Post κs a r₁ s₁ → list-illegal-reads.Post κs a r₂ s₂ → (r₁ ≡ r₂) × (s₁.1.0.now ≡ s₂.1.0.now)
list_illegal_unique κs a r₁ r₂ s₁ s₂ p q = left_same r₁ r₂ _ _ (p ∙ sym q)

pub races_unique :
    (κs : Lfts 2) (a : Dens κs races-kinds.ps) (r₁ r₂ : (res_t races-kinds.r κs).Denot) (s₁ s₂ : AtExit (ended_of 2 races-kinds.ps races-kinds.r) κs)
    → races-reads.Post κs a r₁ s₁ → races-reads.Post κs a r₂ s₂ → (r₁ ≡ r₂) × (s₁.1.0.now ≡ s₂.1.0.now)
races_unique κs a r₁ r₂ s₁ s₂ p q = left_same r₁ r₂ _ _ (p ∙ sym q)

pub illegal_unique :
    (κs : Lfts 2) (a : Dens κs illegal-kinds.ps) (r₁ r₂ : (res_t illegal-kinds.r κs).Denot) (s₁ s₂ : AtExit (ended_of 2 illegal-kinds.ps illegal-kinds.r) κs)
    → illegal-reads.Post κs a r₁ s₁ → illegal-reads.Post κs a r₂ s₂ → (r₁ ≡ r₂) × (s₁.1.0.now ≡ s₂.1.0.now)
illegal_unique κs a r₁ r₂ s₁ s₂ p q = left_same r₁ r₂ _ _ (p ∙ sym q)

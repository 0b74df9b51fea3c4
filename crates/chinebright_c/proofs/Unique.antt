-- The contract of each export leaves one answer, and one content of the lent buffer: it is the contract of the call that the export is.
-- Assumes nothing.
use contract.Lifetimes.{Lfts}
use denote.Triple.Clauses.{AtExit}
use borrow.Fn.Kinds.{Dens, res_t, ended_of}
use mathlib.Core.Path.{◌≡◌}
use Rattle.chinebright.proofs.Unique as calls
use Rattle.chinebright_c.proofs.chinebright_read.Kinds as read-kinds
use Rattle.chinebright_c.proofs.chinebright_read.Reads as read-reads
use Rattle.chinebright_c.proofs.chinebright_preempts.Kinds as preempts-kinds
use Rattle.chinebright_c.proofs.chinebright_preempts.Reads as preempts-reads
use Rattle.chinebright_c.proofs.chinebright_thresholds.Kinds as thresholds-kinds
use Rattle.chinebright_c.proofs.chinebright_thresholds.Reads as thresholds-reads
use Rattle.chinebright_c.proofs.chinebright_races.Kinds as races-kinds
use Rattle.chinebright_c.proofs.chinebright_races.Reads as races-reads
use Rattle.chinebright_c.proofs.chinebright_illegal.Kinds as illegal-kinds
use Rattle.chinebright_c.proofs.chinebright_illegal.Reads as illegal-reads
use Rattle.chinebright_c.proofs.chinebright_fresh.Kinds as fresh-kinds
use Rattle.chinebright_c.proofs.chinebright_fresh.Reads as fresh-reads
use Rattle.chinebright_c.proofs.chinebright_step.Kinds as step-kinds
use Rattle.chinebright_c.proofs.chinebright_step.Reads as step-reads
use Rattle.chinebright_c.proofs.chinebright_listing.Kinds as listing-kinds
use Rattle.chinebright_c.proofs.chinebright_listing.Reads as listing-reads

pub chinebright_read_unique :
    (κs : Lfts 1) (a : Dens κs read-kinds.ps) (r₁ r₂ : (res_t read-kinds.r κs).Denot)
    (s₁ s₂ : AtExit (ended_of 1 read-kinds.ps read-kinds.r) κs)
    → read-reads.Post κs a r₁ s₁ → read-reads.Post κs a r₂ s₂ → r₁ ≡ r₂
chinebright_read_unique = calls.chinebright_read_unique

pub chinebright_preempts_unique :
    (κs : Lfts 1) (a : Dens κs preempts-kinds.ps) (r₁ r₂ : (res_t preempts-kinds.r κs).Denot)
    (s₁ s₂ : AtExit (ended_of 1 preempts-kinds.ps preempts-kinds.r) κs)
    → preempts-reads.Post κs a r₁ s₁ → preempts-reads.Post κs a r₂ s₂ → r₁ ≡ r₂
chinebright_preempts_unique = calls.chinebright_preempts_unique

pub chinebright_thresholds_unique :
    (κs : Lfts 2) (a : Dens κs thresholds-kinds.ps) (r₁ r₂ : (res_t thresholds-kinds.r κs).Denot)
    (s₁ s₂ : AtExit (ended_of 2 thresholds-kinds.ps thresholds-kinds.r) κs)
    → thresholds-reads.Post κs a r₁ s₁ → thresholds-reads.Post κs a r₂ s₂ → (r₁ ≡ r₂) × (s₁.1.0.now ≡ s₂.1.0.now)
chinebright_thresholds_unique = calls.chinebright_thresholds_unique

pub chinebright_races_unique :
    (κs : Lfts 2) (a : Dens κs races-kinds.ps) (r₁ r₂ : (res_t races-kinds.r κs).Denot)
    (s₁ s₂ : AtExit (ended_of 2 races-kinds.ps races-kinds.r) κs)
    → races-reads.Post κs a r₁ s₁ → races-reads.Post κs a r₂ s₂ → (r₁ ≡ r₂) × (s₁.1.0.now ≡ s₂.1.0.now)
chinebright_races_unique = calls.chinebright_races_unique

pub chinebright_illegal_unique :
    (κs : Lfts 2) (a : Dens κs illegal-kinds.ps) (r₁ r₂ : (res_t illegal-kinds.r κs).Denot)
    (s₁ s₂ : AtExit (ended_of 2 illegal-kinds.ps illegal-kinds.r) κs)
    → illegal-reads.Post κs a r₁ s₁ → illegal-reads.Post κs a r₂ s₂ → (r₁ ≡ r₂) × (s₁.1.0.now ≡ s₂.1.0.now)
chinebright_illegal_unique = calls.chinebright_illegal_unique

pub chinebright_fresh_unique :
    (κs : Lfts 1) (a : Dens κs fresh-kinds.ps) (r₁ r₂ : (res_t fresh-kinds.r κs).Denot)
    (s₁ s₂ : AtExit (ended_of 1 fresh-kinds.ps fresh-kinds.r) κs)
    → fresh-reads.Post κs a r₁ s₁ → fresh-reads.Post κs a r₂ s₂ → (r₁ ≡ r₂) × (s₁.0.now ≡ s₂.0.now)
chinebright_fresh_unique = calls.chinebright_fresh_unique

pub chinebright_step_unique :
    (κs : Lfts 2) (a : Dens κs step-kinds.ps) (r₁ r₂ : (res_t step-kinds.r κs).Denot)
    (s₁ s₂ : AtExit (ended_of 2 step-kinds.ps step-kinds.r) κs)
    → step-reads.Post κs a r₁ s₁ → step-reads.Post κs a r₂ s₂ → (r₁ ≡ r₂) × (s₁.1.0.now ≡ s₂.1.0.now)
chinebright_step_unique = calls.chinebright_step_unique

pub chinebright_listing_unique :
    (κs : Lfts 2) (a : Dens κs listing-kinds.ps) (r₁ r₂ : (res_t listing-kinds.r κs).Denot)
    (s₁ s₂ : AtExit (ended_of 2 listing-kinds.ps listing-kinds.r) κs)
    → listing-reads.Post κs a r₁ s₁ → listing-reads.Post κs a r₂ s₂ → (r₁ ≡ r₂) × (s₁.1.0.now ≡ s₂.1.0.now)
chinebright_listing_unique = calls.chinebright_listing_unique

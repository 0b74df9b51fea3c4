-- The contract of each public function leaves one answer, and those of the storing one content of the buffer.
-- Assumes nothing.
use contract.Lifetimes.{Lfts}
use denote.Triple.Clauses.{AtExit}
use borrow.Fn.Kinds.{Dens, res_t, ended_of}
use mathlib.Core.Path.{◌≡◌, sym, ◌∙◌}
use Rattle.rows.proofs.Written.{wrote_same}
use Rattle.lines.proofs.Pairs.section_length.Kinds as section-length-kinds
use Rattle.lines.proofs.Pairs.section_length.Reads as section-length-reads
use Rattle.lines.proofs.Pairs.put_section.Kinds as put-section-kinds
use Rattle.lines.proofs.Pairs.put_section.Reads as put-section-reads
use Rattle.lines.proofs.Pairs.put_some.Kinds as put-some-kinds
use Rattle.lines.proofs.Pairs.put_some.Reads as put-some-reads

pub section_length_unique :
    (κs : Lfts 3) (a : Dens κs section-length-kinds.ps) (r₁ r₂ : (res_t section-length-kinds.r κs).Denot)
    (s₁ s₂ : AtExit (ended_of 3 section-length-kinds.ps section-length-kinds.r) κs)
    → section-length-reads.Post κs a r₁ s₁ → section-length-reads.Post κs a r₂ s₂ → r₁ ≡ r₂
section_length_unique κs a r₁ r₂ s₁ s₂ p q = p.0 ∙ sym q.0

pub put_section_unique :
    (κs : Lfts 4) (a : Dens κs put-section-kinds.ps) (r₁ r₂ : (res_t put-section-kinds.r κs).Denot)
    (s₁ s₂ : AtExit (ended_of 4 put-section-kinds.ps put-section-kinds.r) κs)
    → put-section-reads.Post κs a r₁ s₁ → put-section-reads.Post κs a r₂ s₂ → (r₁ ≡ r₂) × (s₁.1.0.now ≡ s₂.1.0.now)
put_section_unique κs a r₁ r₂ s₁ s₂ p q = wrote_same p q

pub put_some_unique :
    (κs : Lfts 3) (a : Dens κs put-some-kinds.ps) (r₁ r₂ : (res_t put-some-kinds.r κs).Denot)
    (s₁ s₂ : AtExit (ended_of 3 put-some-kinds.ps put-some-kinds.r) κs)
    → put-some-reads.Post κs a r₁ s₁ → put-some-reads.Post κs a r₂ s₂ → (r₁ ≡ r₂) × (s₁.1.0.now ≡ s₂.1.0.now)
put_some_unique κs a r₁ r₂ s₁ s₂ p q = wrote_same p.0 q.0

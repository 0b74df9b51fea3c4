-- The contract of each public function leaves one answer, or one content of the buffer and one place.
-- Assumes nothing.
use contract.Lifetimes.{Lfts}
use denote.Triple.Clauses.{AtExit}
use borrow.Fn.Kinds.{Dens, res_t, ended_of}
use mathlib.Core.Path.{◌≡◌, sym, ◌∙◌}
use Rattle.rows.proofs.Written.{wrote_same}
use Rattle.text.proofs.digits.Kinds as digits-kinds
use Rattle.text.proofs.digits.Reads as digits-reads
use Rattle.text.proofs.Pen.new.Kinds as new-kinds
use Rattle.text.proofs.Pen.new.Reads as new-reads
use Rattle.text.proofs.Pen.put.Kinds as put-kinds
use Rattle.text.proofs.Pen.put.Reads as put-reads
use Rattle.text.proofs.Pen.number.Kinds as number-kinds
use Rattle.text.proofs.Pen.number.Reads as number-reads
use Rattle.text.proofs.Pen.part.Kinds as part-kinds
use Rattle.text.proofs.Pen.part.Reads as part-reads
use Rattle.text.proofs.Pen.line.Kinds as line-kinds
use Rattle.text.proofs.Pen.line.Reads as line-reads
use Rattle.text.specs.declared.Pen.{Pen}

-- Two pens with one buffer, which holds the same, and one place.
abbrev Same : Pen → Pen → Type 0
Same p q = (p.at ≡ q.at) × (p.out.now ≡ q.out.now) × (p.out.ghost_name ≡ q.out.ghost_name)

pub digits_unique :
    (κs : Lfts 0) (a : Dens κs digits-kinds.ps) (r₁ r₂ : (res_t digits-kinds.r κs).Denot) (s₁ s₂ : AtExit (ended_of 0 digits-kinds.ps digits-kinds.r) κs)
    → digits-reads.Post κs a r₁ s₁ → digits-reads.Post κs a r₂ s₂ → r₁ ≡ r₂
digits_unique κs a r₁ r₂ s₁ s₂ p q = p.0 ∙ sym q.0

pub new_unique :
    (κs : Lfts 1) (a : Dens κs new-kinds.ps) (r₁ r₂ : (res_t new-kinds.r κs).Denot) (s₁ s₂ : AtExit (ended_of 1 new-kinds.ps new-kinds.r) κs)
    → new-reads.Post κs a r₁ s₁ → new-reads.Post κs a r₂ s₂ → Same r₁ r₂
new_unique κs a r₁ r₂ s₁ s₂ p q = (p.2 ∙ sym q.2, p.1 ∙ sym q.1, p.0 ∙ sym q.0)

pub put_unique :
    (κs : Lfts 2) (a : Dens κs put-kinds.ps) (r₁ r₂ : (res_t put-kinds.r κs).Denot) (s₁ s₂ : AtExit (ended_of 2 put-kinds.ps put-kinds.r) κs)
    → put-reads.Post κs a r₁ s₁ → put-reads.Post κs a r₂ s₂ → Same s₁.0.now s₂.0.now
put_unique κs a r₁ r₂ s₁ s₂ p q =
    let e = wrote_same p.0.0 q.0.0 in (e.0, e.1, p.0.1 ∙ sym q.0.1)

pub number_unique :
    (κs : Lfts 2) (a : Dens κs number-kinds.ps) (r₁ r₂ : (res_t number-kinds.r κs).Denot) (s₁ s₂ : AtExit (ended_of 2 number-kinds.ps number-kinds.r) κs)
    → number-reads.Post κs a r₁ s₁ → number-reads.Post κs a r₂ s₂ → Same s₁.0.now s₂.0.now
number_unique κs a r₁ r₂ s₁ s₂ p q =
    let e = wrote_same p.0.0 q.0.0 in (e.0, e.1, p.0.1 ∙ sym q.0.1)

pub part_unique :
    (κs : Lfts 4) (a : Dens κs part-kinds.ps) (r₁ r₂ : (res_t part-kinds.r κs).Denot) (s₁ s₂ : AtExit (ended_of 4 part-kinds.ps part-kinds.r) κs)
    → part-reads.Post κs a r₁ s₁ → part-reads.Post κs a r₂ s₂ → Same s₁.0.now s₂.0.now
part_unique κs a r₁ r₂ s₁ s₂ p q =
    let e = wrote_same p.0.0 q.0.0 in (e.0, e.1, p.0.1 ∙ sym q.0.1)

pub line_unique :
    (κs : Lfts 4) (a : Dens κs line-kinds.ps) (r₁ r₂ : (res_t line-kinds.r κs).Denot) (s₁ s₂ : AtExit (ended_of 4 line-kinds.ps line-kinds.r) κs)
    → line-reads.Post κs a r₁ s₁ → line-reads.Post κs a r₂ s₂ → Same s₁.0.now s₂.0.now
line_unique κs a r₁ r₂ s₁ s₂ p q =
    let e = wrote_same p.0.0 q.0.0 in (e.0, e.1, p.0.1 ∙ sym q.0.1)

-- The contract of each public function leaves one answer, and one content of the lent buffer.
-- Assumes nothing.
use contract.Lifetimes.{Lfts}
use denote.Triple.Clauses.{AtExit}
use borrow.Fn.Kinds.{Dens, res_t, ended_of}
use mathlib.Core.Path.{◌≡◌, refl, sym, ◌∙◌, ap, subst}
use mathlib.Core.List.{List}
use Prim.Native.Nat.{ℕ, ◌^◌, ◌<◌}
use Rattle.rows.specs.declared.Rows.{Rows}
use Rattle.rows.proofs.Written.{wrote_same}
use Rattle.std.specs.Coded.{le_prop}
use Rattle.std.specs.Prelude.{Option, None, Some}
use Rattle.std.specs.Iterator.{YieldsFirst}
use Rattle.rows.specs.declared.set_bits.SetBits.{SetBits}
use Rattle.rows.specs.Bits.{set_bits}
use Rattle.rows.proofs.BitList.{same_word}
use Rattle.rows.proofs.set_bits.bits.Kinds as bits-kinds
use Rattle.rows.proofs.set_bits.bits.Reads as bits-reads
use Rattle.rows.proofs.set_bits.SetBitsIterator.next.Kinds as next-kinds
use Rattle.rows.proofs.set_bits.SetBitsIterator.next.Reads as next-reads
use Rattle.rows.proofs.Rows.empty.Kinds as empty-kinds
use Rattle.rows.proofs.Rows.empty.Reads as empty-reads
use Rattle.rows.proofs.Rows.count.Kinds as count-kinds
use Rattle.rows.proofs.Rows.count.Reads as count-reads
use Rattle.rows.proofs.Rows.write.Kinds as write-kinds
use Rattle.rows.proofs.Rows.write.Reads as write-reads
use Rattle.rows.proofs.writing.count_row.Kinds as count-row-kinds
use Rattle.rows.proofs.writing.count_row.Reads as count-row-reads
use Rattle.rows.proofs.writing.write_row.Kinds as write-row-kinds
use Rattle.rows.proofs.writing.write_row.Reads as write-row-reads

pub count_row_unique :
    (κs : Lfts 0) (a : Dens κs count-row-kinds.ps) (r₁ r₂ : (res_t count-row-kinds.r κs).Denot)
    (s₁ s₂ : AtExit (ended_of 0 count-row-kinds.ps count-row-kinds.r) κs)
    → count-row-reads.Post κs a r₁ s₁ → count-row-reads.Post κs a r₂ s₂ → r₁ ≡ r₂
count_row_unique κs a r₁ r₂ s₁ s₂ p q = p.pairs 0 ∙ sym (q.pairs 0)

pub write_row_unique :
    (κs : Lfts 1) (a : Dens κs write-row-kinds.ps) (r₁ r₂ : (res_t write-row-kinds.r κs).Denot)
    (s₁ s₂ : AtExit (ended_of 1 write-row-kinds.ps write-row-kinds.r) κs)
    → write-row-reads.Post κs a r₁ s₁ → write-row-reads.Post κs a r₂ s₂ → (r₁ ≡ r₂) × (s₁.1.1.1.0.now ≡ s₂.1.1.1.0.now)
write_row_unique κs a r₁ r₂ s₁ s₂ p q = wrote_same p q

-- Rows with the same words are the same.
rows_same : (a b : Rows) → a.low ≡ b.low → a.high ≡ b.high → a ≡ b
rows_same a b e f =
    ap (λ (l : List ℕ). record { low = l; high = a.high }) e ∙ ap (λ (h : List ℕ). record { low = b.low; high = h }) f

pub empty_unique :
    (κs : Lfts 0) (a : Dens κs empty-kinds.ps) (r₁ r₂ : (res_t empty-kinds.r κs).Denot)
    (s₁ s₂ : AtExit (ended_of 0 empty-kinds.ps empty-kinds.r) κs)
    → empty-reads.Post κs a r₁ s₁ → empty-reads.Post κs a r₂ s₂ → r₁ ≡ r₂
empty_unique κs a r₁ r₂ s₁ s₂ p q = rows_same r₁ r₂ (p.0 ∙ sym q.0) (p.1 ∙ sym q.1)

pub count_unique :
    (κs : Lfts 1) (a : Dens κs count-kinds.ps) (r₁ r₂ : (res_t count-kinds.r κs).Denot)
    (s₁ s₂ : AtExit (ended_of 1 count-kinds.ps count-kinds.r) κs)
    → count-reads.Post κs a r₁ s₁ → count-reads.Post κs a r₂ s₂ → r₁ ≡ r₂
count_unique κs a r₁ r₂ s₁ s₂ p q = p ∙ sym q

pub write_unique :
    (κs : Lfts 2) (a : Dens κs write-kinds.ps) (r₁ r₂ : (res_t write-kinds.r κs).Denot)
    (s₁ s₂ : AtExit (ended_of 2 write-kinds.ps write-kinds.r) κs)
    → write-reads.Post κs a r₁ s₁ → write-reads.Post κs a r₂ s₂ → (r₁ ≡ r₂) × (s₁.1.1.0.now ≡ s₂.1.1.0.now)
write_unique κs a r₁ r₂ s₁ s₂ p q = (p.1 ∙ sym q.1, p.0 ∙ sym q.0)

-- Iterators with the same word left are the same.
bits_same : (s t : SetBits) → s.left ≡ t.left → s ≡ t
bits_same s t e = subst Same e base t.fits
  where
    Same : ℕ → Type 0
    Same w = (f : w < 2 ^ 64) → s ≡ record { left = w; fits = f }

    base : Same s.left
    base f = ap (λ (x : s.left < 2 ^ 64). record { left = s.left; fits = x }) (le_prop s.fits f)

pub bits_unique :
    (κs : Lfts 0) (a : Dens κs bits-kinds.ps) (r₁ r₂ : (res_t bits-kinds.r κs).Denot)
    (s₁ s₂ : AtExit (ended_of 0 bits-kinds.ps bits-kinds.r) κs)
    → bits-reads.Post κs a r₁ s₁ → bits-reads.Post κs a r₂ s₂ → r₁ ≡ r₂
bits_unique κs a r₁ r₂ s₁ s₂ p q = bits_same r₁ r₂ (p ∙ sym q)

-- From one state the same comes, and the same is left.
next_same : (s t₁ t₂ : SetBits) (r₁ r₂ : Option ℕ) → YieldsFirst (λ (s : SetBits). set_bits s.left) s r₁ t₁ → YieldsFirst (λ (s : SetBits). set_bits s.left) s r₂ t₂
    → (r₁ ≡ r₂) × (set_bits t₁.left ≡ set_bits t₂.left)
next_same s t₁ t₂ None None p q = (refl, p.1 ∙ sym q.1)
next_same s t₁ t₂ None (Some x) p q = absurd (cc)
next_same s t₁ t₂ (Some x) None p q = absurd (cc)
next_same s t₁ t₂ (Some x) (Some y) p q = (cc, cc)

pub next_unique :
    (κs : Lfts 1) (a : Dens κs next-kinds.ps) (r₁ r₂ : (res_t next-kinds.r κs).Denot)
    (s₁ s₂ : AtExit (ended_of 1 next-kinds.ps next-kinds.r) κs)
    → next-reads.Post κs a r₁ s₁ → next-reads.Post κs a r₂ s₂ → (r₁ ≡ r₂) × (s₁.0.now ≡ s₂.0.now)
next_unique κs a r₁ r₂ s₁ s₂ p q =
    let e = next_same a.0.now s₁.0.now s₂.0.now r₁ r₂ p.0 q.0 in
    (e.0, bits_same s₁.0.now s₂.0.now (same_word s₁.0.now.left s₂.0.now.left s₁.0.now.fits s₂.0.now.fits e.1))

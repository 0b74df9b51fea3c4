-- The contract of the reader leaves one answer: what is told of the bytes tells the counts or the fault, and the table holds the bytes that were lent.
-- Assumes nothing.
use contract.Lifetimes.{Lfts}
use denote.Bor.{Bor}
use denote.Triple.Clauses.{AtExit}
use borrow.Fn.Kinds.{Dens, res_t, ended_of}
use mathlib.Core.Path.{◌≡◌, sym, ◌∙◌, ap, subst}
use mathlib.Core.List.{List}
use Prim.Native.Nat.{ℕ}
use Rattle.std.specs.Prelude.{Result, Ok, Err, IfOk}
use Rattle.rules.specs.Reading.{Counts, counts_in}
use Rattle.table.specs.declared.Table.{Table}
use Rattle.table.specs.declared.checked.Checked.{Checked}
use Rattle.table.specs.declared.refusals.Fault.{Fault}
use Rattle.std.specs.Coded.{le_prop}
use Rattle.rules.specs.Accepted.{Accepted}
use Rattle.table.specs.OneProof.{accepted_prop}
use Rattle.table.specs.Answers.{shown, number, counts, Stands}
use Rattle.table.specs.Read.{told}
use Rattle.table.proofs.Shown.{counts_shown}
use Rattle.table.proofs.Faults.{fault_same}
use Rattle.table.proofs.Table.read.Kinds as read-kinds
use Rattle.table.proofs.Table.read.Reads as read-reads

-- Two structs that hold the same bytes and show the same table are the same.
pub shown_same : (t u : Table) → t.bytes ≡ u.bytes → shown t ≡ shown u → t ≡ u
shown_same t u b e = ap (struct t.bytes) (sym (counts_shown t) ∙ ap counts_in e ∙ counts_shown u) ∙ ap (λ x. struct x (counts u)) b
  where
    struct : Bor (List ℕ) → Counts → Table
    struct b c = record { bytes = b; nodes = c.nodes; locks = c.locks; resources = c.resources; accesses = c.accesses }

checked_same : (t u : Checked) → t.table ≡ u.table → t ≡ u
checked_same t u e = subst Same e base u.accepted u.stands
  where
    Same : Table → Type 0
    Same x = (a : Accepted (shown x)) (s : Stands x) → t ≡ record { table = x; accepted = a; stands = s }

    base : Same t.table
    base a s =
        ap (λ (x : Accepted (shown t.table)). record { table = t.table; accepted = x; stands = t.stands }) (accepted_prop (shown t.table) t.accepted a)
        ∙ ap (λ (x : Stands t.table). record { table = t.table; accepted = a; stands = x }) (le_prop t.stands s)

-- What is told of the bytes tells the answer.
told_same : (b : Bor (List ℕ)) (r s : Result Checked Fault) → IfOk r (λ t. t.table.bytes ≡ b) → IfOk s (λ t. t.table.bytes ≡ b) → told r ≡ told s → r ≡ s
unfolding told
told_same b (Ok t) (Ok u) l m e =
    let q : shown t.table ≡ shown u.table = cc in ap Ok (checked_same t u (shown_same t.table u.table (l ∙ sym m) q))
told_same b (Ok t) (Err g) l m e = cc
told_same b (Err f) (Ok u) l m e = cc
told_same b (Err f) (Err g) l m e =
    let n : number f ≡ number g = cc in
    let p : f.place ≡ g.place = cc in
    ap Err (fault_same f g n p)

pub read_unique :
    (κs : Lfts 1) (a : Dens κs read-kinds.ps) (r₁ r₂ : (res_t read-kinds.r κs).Denot)
    (s₁ s₂ : AtExit (ended_of 1 read-kinds.ps read-kinds.r) κs)
    → read-reads.Post κs a r₁ s₁ → read-reads.Post κs a r₂ s₂ → r₁ ≡ r₂
read_unique κs a r₁ r₂ s₁ s₂ p q = told_same _ r₁ r₂ p.1 q.1 (p.0 ∙ sym q.0)

-- The contract of each record's getter leaves one record: it says what each field is.
-- Assumes nothing.
use Prim.Native.Nat.{ℕ}
use contract.Lifetimes.{Lfts}
use denote.Triple.Clauses.{AtExit}
use borrow.Fn.Kinds.{Dens, res_t, ended_of}
use mathlib.Core.Path.{◌≡◌, sym, ◌∙◌, ap}
use Rattle.table.specs.declared.kinds.NodeKind.{NodeKind}
use Rattle.table.specs.declared.kinds.LockKind.{LockKind}
use Rattle.table.specs.declared.standing.Node.{Node}
use Rattle.table.specs.declared.standing.Lock.{Lock}
use Rattle.table.specs.declared.standing.Access.{Access}
use Rattle.table.proofs.Table.node.Kinds as node-kinds
use Rattle.table.proofs.Table.node.Reads as node-reads
use Rattle.table.proofs.Table.lock.Kinds as lock-kinds
use Rattle.table.proofs.Table.lock.Reads as lock-reads
use Rattle.table.proofs.Table.access.Kinds as access-kinds
use Rattle.table.proofs.Table.access.Reads as access-reads

node_same : (a b : Node) → a.parent ≡ b.parent → a.kind ≡ b.kind → a ≡ b
node_same a b p k =
    ap (λ (x : ℕ). record { parent = x; kind = a.kind }) p ∙ ap (λ (x : NodeKind). record { parent = b.parent; kind = x }) k

lock_same : (a b : Lock) → a.provider ≡ b.provider → a.kind ≡ b.kind → a.covered ≡ b.covered → a ≡ b
lock_same a b p k c =
    ap (λ (x : ℕ). record { provider = x; kind = a.kind; covered = a.covered }) p
    ∙ ap (λ (x : LockKind). record { provider = b.provider; kind = x; covered = a.covered }) k
    ∙ ap (λ (x : ℕ). record { provider = b.provider; kind = b.kind; covered = x }) c

access_same : (a b : Access) → a.task ≡ b.task → a.resource ≡ b.resource → a.locks ≡ b.locks → a ≡ b
access_same a b t r l =
    ap (λ (x : ℕ). record { task = x; resource = a.resource; locks = a.locks }) t
    ∙ ap (λ (x : ℕ). record { task = b.task; resource = x; locks = a.locks }) r
    ∙ ap (λ (x : ℕ). record { task = b.task; resource = b.resource; locks = x }) l

pub node_unique :
    (κs : Lfts 2) (a : Dens κs node-kinds.ps) (r₁ r₂ : (res_t node-kinds.r κs).Denot) (s₁ s₂ : AtExit (ended_of 2 node-kinds.ps node-kinds.r) κs)
    → node-reads.Post κs a r₁ s₁ → node-reads.Post κs a r₂ s₂ → r₁ ≡ r₂
node_unique κs a r₁ r₂ s₁ s₂ p q = node_same r₁ r₂ (p.0 ∙ sym q.0) (p.1 ∙ sym q.1)

pub lock_unique :
    (κs : Lfts 2) (a : Dens κs lock-kinds.ps) (r₁ r₂ : (res_t lock-kinds.r κs).Denot) (s₁ s₂ : AtExit (ended_of 2 lock-kinds.ps lock-kinds.r) κs)
    → lock-reads.Post κs a r₁ s₁ → lock-reads.Post κs a r₂ s₂ → r₁ ≡ r₂
lock_unique κs a r₁ r₂ s₁ s₂ p q = lock_same r₁ r₂ (p.0 ∙ sym q.0) (p.1 ∙ sym q.1) (p.2 ∙ sym q.2)

pub access_unique :
    (κs : Lfts 2) (a : Dens κs access-kinds.ps) (r₁ r₂ : (res_t access-kinds.r κs).Denot) (s₁ s₂ : AtExit (ended_of 2 access-kinds.ps access-kinds.r) κs)
    → access-reads.Post κs a r₁ s₁ → access-reads.Post κs a r₂ s₂ → r₁ ≡ r₂
access_unique κs a r₁ r₂ s₁ s₂ p q = access_same r₁ r₂ (p.0 ∙ sym q.0) (p.1 ∙ sym q.1) (p.2 ∙ sym q.2)

-- The contract of each getter, of a kind made of its byte, of a fault's number, and of a fault made of its parts leaves one answer: it says which
-- the answer is.
-- Assumes nothing.
use contract.Lifetimes.{Lfts}
use denote.Triple.Clauses.{AtExit}
use borrow.Fn.Kinds.{Dens, res_t, ended_of}
use mathlib.Core.Path.{◌≡◌, sym, ◌∙◌}
use Rattle.table.proofs.Table.parent.Kinds as parent-kinds
use Rattle.table.proofs.Table.parent.Reads as parent-reads
use Rattle.table.proofs.Table.kind.Kinds as kind-kinds
use Rattle.table.proofs.Table.kind.Reads as kind-reads
use Rattle.table.proofs.Table.provider.Kinds as provider-kinds
use Rattle.table.proofs.Table.provider.Reads as provider-reads
use Rattle.table.proofs.Table.lock_kind.Kinds as lock-kind-kinds
use Rattle.table.proofs.Table.lock_kind.Reads as lock-kind-reads
use Rattle.table.proofs.Table.covered.Kinds as covered-kinds
use Rattle.table.proofs.Table.covered.Reads as covered-reads
use Rattle.table.proofs.Table.label.Kinds as label-kinds
use Rattle.table.proofs.Table.label.Reads as label-reads
use Rattle.table.proofs.Table.task_of.Kinds as task-of-kinds
use Rattle.table.proofs.Table.task_of.Reads as task-of-reads
use Rattle.table.proofs.Table.resource_of.Kinds as resource-of-kinds
use Rattle.table.proofs.Table.resource_of.Reads as resource-of-reads
use Rattle.table.proofs.Table.lock_set.Kinds as lock-set-kinds
use Rattle.table.proofs.Table.lock_set.Reads as lock-set-reads
use Rattle.table.proofs.Table.is_task.Kinds as is-task-kinds
use Rattle.table.proofs.Table.is_task.Reads as is-task-reads
use Rattle.table.proofs.Table.is_scheduler.Kinds as is-scheduler-kinds
use Rattle.table.proofs.Table.is_scheduler.Reads as is-scheduler-reads
use Rattle.table.proofs.Table.is_child.Kinds as is-child-kinds
use Rattle.table.proofs.Table.is_child.Reads as is-child-reads
use Rattle.table.proofs.kinds.NodeKindFromU8.from.Kinds as node-kind-kinds
use Rattle.table.proofs.kinds.NodeKindFromU8.from.Reads as node-kind-reads
use Rattle.table.proofs.kinds.LockKindFromU8.from.Kinds as lock-from-kinds
use Rattle.table.proofs.kinds.LockKindFromU8.from.Reads as lock-from-reads
use Rattle.table.proofs.refusals.Fault.number.Kinds as number-kinds
use Rattle.table.proofs.refusals.Fault.number.Reads as number-reads
use Rattle.table.proofs.refusals.Refusal.at.Kinds as at-kinds
use Rattle.table.proofs.refusals.Refusal.at.Reads as at-reads

pub parent_unique :
    (κs : Lfts 2) (a : Dens κs parent-kinds.ps) (r₁ r₂ : (res_t parent-kinds.r κs).Denot) (s₁ s₂ : AtExit (ended_of 2 parent-kinds.ps parent-kinds.r) κs)
    → parent-reads.Post κs a r₁ s₁ → parent-reads.Post κs a r₂ s₂ → r₁ ≡ r₂
parent_unique κs a r₁ r₂ s₁ s₂ p q = p.0 ∙ sym q.0

pub kind_unique :
    (κs : Lfts 2) (a : Dens κs kind-kinds.ps) (r₁ r₂ : (res_t kind-kinds.r κs).Denot) (s₁ s₂ : AtExit (ended_of 2 kind-kinds.ps kind-kinds.r) κs)
    → kind-reads.Post κs a r₁ s₁ → kind-reads.Post κs a r₂ s₂ → r₁ ≡ r₂
kind_unique κs a r₁ r₂ s₁ s₂ p q = p ∙ sym q

pub provider_unique :
    (κs : Lfts 2) (a : Dens κs provider-kinds.ps) (r₁ r₂ : (res_t provider-kinds.r κs).Denot) (s₁ s₂ : AtExit (ended_of 2 provider-kinds.ps provider-kinds.r) κs)
    → provider-reads.Post κs a r₁ s₁ → provider-reads.Post κs a r₂ s₂ → r₁ ≡ r₂
provider_unique κs a r₁ r₂ s₁ s₂ p q = p.0 ∙ sym q.0

pub lock_kind_unique :
    (κs : Lfts 2) (a : Dens κs lock-kind-kinds.ps) (r₁ r₂ : (res_t lock-kind-kinds.r κs).Denot) (s₁ s₂ : AtExit (ended_of 2 lock-kind-kinds.ps lock-kind-kinds.r) κs)
    → lock-kind-reads.Post κs a r₁ s₁ → lock-kind-reads.Post κs a r₂ s₂ → r₁ ≡ r₂
lock_kind_unique κs a r₁ r₂ s₁ s₂ p q = p ∙ sym q

pub covered_unique :
    (κs : Lfts 2) (a : Dens κs covered-kinds.ps) (r₁ r₂ : (res_t covered-kinds.r κs).Denot) (s₁ s₂ : AtExit (ended_of 2 covered-kinds.ps covered-kinds.r) κs)
    → covered-reads.Post κs a r₁ s₁ → covered-reads.Post κs a r₂ s₂ → r₁ ≡ r₂
covered_unique κs a r₁ r₂ s₁ s₂ p q = p.0 ∙ sym q.0

pub label_unique :
    (κs : Lfts 2) (a : Dens κs label-kinds.ps) (r₁ r₂ : (res_t label-kinds.r κs).Denot) (s₁ s₂ : AtExit (ended_of 2 label-kinds.ps label-kinds.r) κs)
    → label-reads.Post κs a r₁ s₁ → label-reads.Post κs a r₂ s₂ → r₁ ≡ r₂
label_unique κs a r₁ r₂ s₁ s₂ p q = p.0 ∙ sym q.0

pub task_of_unique :
    (κs : Lfts 2) (a : Dens κs task-of-kinds.ps) (r₁ r₂ : (res_t task-of-kinds.r κs).Denot) (s₁ s₂ : AtExit (ended_of 2 task-of-kinds.ps task-of-kinds.r) κs)
    → task-of-reads.Post κs a r₁ s₁ → task-of-reads.Post κs a r₂ s₂ → r₁ ≡ r₂
task_of_unique κs a r₁ r₂ s₁ s₂ p q = p.0 ∙ sym q.0

pub resource_of_unique :
    (κs : Lfts 2) (a : Dens κs resource-of-kinds.ps) (r₁ r₂ : (res_t resource-of-kinds.r κs).Denot) (s₁ s₂ : AtExit (ended_of 2 resource-of-kinds.ps resource-of-kinds.r) κs)
    → resource-of-reads.Post κs a r₁ s₁ → resource-of-reads.Post κs a r₂ s₂ → r₁ ≡ r₂
resource_of_unique κs a r₁ r₂ s₁ s₂ p q = p.0 ∙ sym q.0

pub lock_set_unique :
    (κs : Lfts 2) (a : Dens κs lock-set-kinds.ps) (r₁ r₂ : (res_t lock-set-kinds.r κs).Denot) (s₁ s₂ : AtExit (ended_of 2 lock-set-kinds.ps lock-set-kinds.r) κs)
    → lock-set-reads.Post κs a r₁ s₁ → lock-set-reads.Post κs a r₂ s₂ → r₁ ≡ r₂
lock_set_unique κs a r₁ r₂ s₁ s₂ p q = p ∙ sym q

pub is_task_unique :
    (κs : Lfts 2) (a : Dens κs is-task-kinds.ps) (r₁ r₂ : (res_t is-task-kinds.r κs).Denot) (s₁ s₂ : AtExit (ended_of 2 is-task-kinds.ps is-task-kinds.r) κs)
    → is-task-reads.Post κs a r₁ s₁ → is-task-reads.Post κs a r₂ s₂ → r₁ ≡ r₂
is_task_unique κs a r₁ r₂ s₁ s₂ p q = p.0 ∙ sym q.0

pub is_scheduler_unique :
    (κs : Lfts 2) (a : Dens κs is-scheduler-kinds.ps) (r₁ r₂ : (res_t is-scheduler-kinds.r κs).Denot) (s₁ s₂ : AtExit (ended_of 2 is-scheduler-kinds.ps is-scheduler-kinds.r) κs)
    → is-scheduler-reads.Post κs a r₁ s₁ → is-scheduler-reads.Post κs a r₂ s₂ → r₁ ≡ r₂
is_scheduler_unique κs a r₁ r₂ s₁ s₂ p q = p ∙ sym q

pub is_child_unique :
    (κs : Lfts 2) (a : Dens κs is-child-kinds.ps) (r₁ r₂ : (res_t is-child-kinds.r κs).Denot) (s₁ s₂ : AtExit (ended_of 2 is-child-kinds.ps is-child-kinds.r) κs)
    → is-child-reads.Post κs a r₁ s₁ → is-child-reads.Post κs a r₂ s₂ → r₁ ≡ r₂
is_child_unique κs a r₁ r₂ s₁ s₂ p q = p ∙ sym q

pub number_unique :
    (κs : Lfts 0) (a : Dens κs number-kinds.ps) (r₁ r₂ : (res_t number-kinds.r κs).Denot) (s₁ s₂ : AtExit (ended_of 0 number-kinds.ps number-kinds.r) κs)
    → number-reads.Post κs a r₁ s₁ → number-reads.Post κs a r₂ s₂ → r₁ ≡ r₂
number_unique κs a r₁ r₂ s₁ s₂ p q = p ∙ sym q

pub at_unique :
    (κs : Lfts 0) (a : Dens κs at-kinds.ps) (r₁ r₂ : (res_t at-kinds.r κs).Denot) (s₁ s₂ : AtExit (ended_of 0 at-kinds.ps at-kinds.r) κs)
    → at-reads.Post κs a r₁ s₁ → at-reads.Post κs a r₂ s₂ → r₁ ≡ r₂
at_unique κs a r₁ r₂ s₁ s₂ p q = p ∙ sym q

pub node_kind_from_unique :
    (κs : Lfts 0) (a : Dens κs node-kind-kinds.ps) (r₁ r₂ : (res_t node-kind-kinds.r κs).Denot) (s₁ s₂ : AtExit (ended_of 0 node-kind-kinds.ps node-kind-kinds.r) κs)
    → node-kind-reads.Post κs a r₁ s₁ → node-kind-reads.Post κs a r₂ s₂ → r₁ ≡ r₂
node_kind_from_unique κs a r₁ r₂ s₁ s₂ p q = p ∙ sym q

pub lock_kind_from_unique :
    (κs : Lfts 0) (a : Dens κs lock-from-kinds.ps) (r₁ r₂ : (res_t lock-from-kinds.r κs).Denot) (s₁ s₂ : AtExit (ended_of 0 lock-from-kinds.ps lock-from-kinds.r) κs)
    → lock-from-reads.Post κs a r₁ s₁ → lock-from-reads.Post κs a r₂ s₂ → r₁ ≡ r₂
lock_kind_from_unique κs a r₁ r₂ s₁ s₂ p q = p ∙ sym q

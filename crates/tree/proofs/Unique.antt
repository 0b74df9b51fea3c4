-- The contract of each public function leaves one answer.
-- Assumes nothing.
use contract.Lifetimes.{Lfts}
use denote.Triple.Clauses.{AtExit}
use borrow.Fn.Kinds.{Dens, res_t, ended_of}
use mathlib.Core.Path.{◌≡◌, refl, sym, ◌∙◌, ap}
use mathlib.Core.Bool.{Bool, true, false}
use Rattle.std.specs.Prelude.{Result, Ok, Err}
use Rattle.table.specs.declared.refusals.Fault.{Fault}
use Rattle.table.specs.Answers.{number}
use Rattle.table.proofs.Faults.{fault_same}
use Rattle.tree.specs.Answers.{answered}
use Rattle.tree.proofs.at_or_below.Kinds as at-or-below-kinds
use Rattle.tree.proofs.at_or_below.Reads as at-or-below-reads
use Rattle.tree.proofs.is_ancestor.Kinds as is-ancestor-kinds
use Rattle.tree.proofs.is_ancestor.Reads as is-ancestor-reads
use Rattle.tree.proofs.nearest_common.Kinds as nearest-common-kinds
use Rattle.tree.proofs.nearest_common.Reads as nearest-common-reads
use Rattle.tree.proofs.child_above.Kinds as child-above-kinds
use Rattle.tree.proofs.child_above.Reads as child-above-reads
use Rattle.tree.proofs.may_preempt.Kinds as may-preempt-kinds
use Rattle.tree.proofs.may_preempt.Reads as may-preempt-reads
use Rattle.tree.proofs.preempts.Kinds as preempts-kinds
use Rattle.tree.proofs.preempts.Reads as preempts-reads

-- What is answered tells the case.
answered_same : (a c : Result Bool Fault) → answered a ≡ answered c → a ≡ c
unfolding answered
answered_same (Ok true) (Ok true) e = refl
answered_same (Ok true) (Ok false) e = cc
answered_same (Ok false) (Ok true) e = cc
answered_same (Ok false) (Ok false) e = refl
answered_same (Ok a) (Err g) e = cc
answered_same (Err f) (Ok c) e = cc
answered_same (Err f) (Err g) e =
    let n : number f ≡ number g = cc in
    let p : f.place ≡ g.place = cc in
    ap Err (fault_same f g n p)

pub at_or_below_unique :
    (κs : Lfts 2) (a : Dens κs at-or-below-kinds.ps) (r₁ r₂ : (res_t at-or-below-kinds.r κs).Denot) (s₁ s₂ : AtExit (ended_of 2 at-or-below-kinds.ps at-or-below-kinds.r) κs)
    → at-or-below-reads.Post κs a r₁ s₁ → at-or-below-reads.Post κs a r₂ s₂ → r₁ ≡ r₂
at_or_below_unique κs a r₁ r₂ s₁ s₂ p q = p ∙ sym q

pub is_ancestor_unique :
    (κs : Lfts 2) (a : Dens κs is-ancestor-kinds.ps) (r₁ r₂ : (res_t is-ancestor-kinds.r κs).Denot) (s₁ s₂ : AtExit (ended_of 2 is-ancestor-kinds.ps is-ancestor-kinds.r) κs)
    → is-ancestor-reads.Post κs a r₁ s₁ → is-ancestor-reads.Post κs a r₂ s₂ → r₁ ≡ r₂
is_ancestor_unique κs a r₁ r₂ s₁ s₂ p q = p ∙ sym q

pub nearest_common_unique :
    (κs : Lfts 2) (a : Dens κs nearest-common-kinds.ps) (r₁ r₂ : (res_t nearest-common-kinds.r κs).Denot) (s₁ s₂ : AtExit (ended_of 2 nearest-common-kinds.ps nearest-common-kinds.r) κs)
    → nearest-common-reads.Post κs a r₁ s₁ → nearest-common-reads.Post κs a r₂ s₂ → r₁ ≡ r₂
nearest_common_unique κs a r₁ r₂ s₁ s₂ p q = p.0 ∙ sym q.0

pub child_above_unique :
    (κs : Lfts 2) (a : Dens κs child-above-kinds.ps) (r₁ r₂ : (res_t child-above-kinds.r κs).Denot) (s₁ s₂ : AtExit (ended_of 2 child-above-kinds.ps child-above-kinds.r) κs)
    → child-above-reads.Post κs a r₁ s₁ → child-above-reads.Post κs a r₂ s₂ → r₁ ≡ r₂
child_above_unique κs a r₁ r₂ s₁ s₂ p q = p.0 ∙ sym q.0

pub may_preempt_unique :
    (κs : Lfts 2) (a : Dens κs may-preempt-kinds.ps) (r₁ r₂ : (res_t may-preempt-kinds.r κs).Denot) (s₁ s₂ : AtExit (ended_of 2 may-preempt-kinds.ps may-preempt-kinds.r) κs)
    → may-preempt-reads.Post κs a r₁ s₁ → may-preempt-reads.Post κs a r₂ s₂ → r₁ ≡ r₂
may_preempt_unique κs a r₁ r₂ s₁ s₂ p q = p ∙ sym q

pub preempts_unique :
    (κs : Lfts 1) (a : Dens κs preempts-kinds.ps) (r₁ r₂ : (res_t preempts-kinds.r κs).Denot) (s₁ s₂ : AtExit (ended_of 1 preempts-kinds.ps preempts-kinds.r) κs)
    → preempts-reads.Post κs a r₁ s₁ → preempts-reads.Post κs a r₂ s₂ → r₁ ≡ r₂
preempts_unique κs a r₁ r₂ s₁ s₂ p q = answered_same r₁ r₂ (p ∙ sym q)

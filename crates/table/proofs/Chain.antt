-- The reader's chain: the sections before the first fault pass, and that fault is the bytes'; where all pass, the table is the one that stands in them.
-- Assumes nothing.
use Prim.Native.Nat.{ℕ}
use mathlib.Core.Path.{◌≡◌, ◌∙◌, ap}
use mathlib.Core.List.{List}
use denote.Bor.{Bor}
use Rattle.std.specs.Prelude.{Ok, Err}
use Rattle.rules.specs.Reading as reading
use Rattle.rules.specs.Reading.{Is, Refused, read, first_fault, table_of, concluded, counts_of, ◌and_then◌, form_section, node_section, lock_section, resource_section, access_section, end_section}
use Rattle.rules.specs.Accepted.{Accepted}
use Rattle.table.proofs.Told.{told_accepted, told_stands}
use Rattle.table.specs.declared.Table.{Table}
use Rattle.table.specs.declared.refusals.Fault.{Fault}
use Rattle.table.specs.Answers.{counts, shown, number, checked, Stands}
use Rattle.table.proofs.SectionLaws.{found, passes}

-- What follows a section.
module _ (k : reading.Check) where
  pub after : (u : Unit {0}) (m rest : reading.Check) → checked (Ok u) ≡ k → m ≡ rest → m ≡ (k and_then rest)
  unfolding ◌and_then◌
  after u m rest e q = rw (passes k u e, q)

  pub ends : (f : Fault) (rest : reading.Check) → checked (Err f) ≡ k → checked (Err f) ≡ (k and_then rest)
  unfolding checked ◌and_then◌
  ends f rest e = rw (found k f e)

-- What the sections of a table find in its bytes, in their order.
abbrev pub sections : Table → reading.Check
sections t =
    form_section t.bytes.now
    and_then node_section (counts t) t.bytes.now
    and_then lock_section (counts t) t.bytes.now
    and_then resource_section (counts t) t.bytes.now
    and_then access_section (counts t) t.bytes.now
    and_then end_section (counts t) t.bytes.now

-- With the counts that stand in the bytes this is what reading them finds.
module _ (s : Bor (List ℕ)) (t : Table) (e : (counts t ≡ counts_of s.now) × (t.bytes ≡ s)) where
  same : concluded (sections t) (shown t) ≡ read s.now
  unfolding read first_fault table_of shown
  same = rw (e.1, e.0)

  pub refused : (f : Fault) → checked (Err f) ≡ sections t → Refused (number f) f.place ≡ read s.now
  unfolding checked concluded
  refused f h = ap (λ k. concluded k (shown t)) h ∙ same

  pub is_read : (u : Unit {0}) → checked (Ok u) ≡ sections t → Is (shown t) ≡ read s.now
  unfolding checked concluded
  is_read u h = ap (λ k. concluded k (shown t)) h ∙ same

  -- So the table is one to be handed out.
  pub kept : read s.now ≡ Is (shown t) → Accepted (shown t)
  kept q = told_accepted t s.now q

  pub whole : read s.now ≡ Is (shown t) → Stands t
  whole q = told_stands t (ap (λ (x : Bor (List ℕ)). read x.now) e.1 ∙ q)

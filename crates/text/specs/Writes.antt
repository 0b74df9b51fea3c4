-- What a pen writes.
-- Assumes nothing.
use Rattle.std.specs.Prelude.{ℕ, ◌≡◌, List}
use Rattle.rows.specs.Writing.{Wrote}
use Rattle.text.specs.declared.Pen.{Pen}

-- The pen p wrote the bytes vs, and is q now: it has the same buffer.
abbrev pub Writes : Pen → List ℕ → Pen → Type 0
Writes p vs q = Wrote p.out.now p.at vs q.out.now q.at × (q.out.ghost_name ≡ p.out.ghost_name)

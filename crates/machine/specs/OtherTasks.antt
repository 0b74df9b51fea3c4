-- The tasks other than the one that steps, gone through once: who yields the processor, and the locks that they hold together.
-- Assumes nothing.
use Rattle.std.specs.Prelude.{ℕ, zero, suc, Bool, true, false, not, ◌&&◌, ◌||◌, cond, List, Option, None, Some, eqb}
use Rattle.std.specs.Int.Bits.{bit_or}
use Rattle.rules.specs.Table.{Table}
use Rattle.rules.specs.Preemption.{may_preempt}
use Rattle.rules.specs.Locks.{masked, blocked}
use Rattle.rules.specs.Machine.{place, idle, held, Step, Start, Open, Close, Finish}

-- Task x may take the processor from task u, at whose place v stands: what `may_take` asks of every u.
abbrev pub yields : Table → ℕ → ℕ → ℕ → Bool
yields t x u v = eqb u x || eqb v idle || (may_preempt t.tree x u && not (masked t (held t v) x))

-- The locks that task u, at whose place v stands, holds against x; a task holds none against itself.
abbrev pub adds : Table → ℕ → ℕ → ℕ → ℕ
adds t x u v = cond (eqb u x) 0 (held t v)

-- The locks that the tasks below n other than x hold: the union of the sets of their open accesses.
unfoldable pub held_below : ℕ → Table → List ℕ → ℕ → ℕ
held_below zero t s x = 0
held_below (suc n) t s x = bit_or (held_below n t s x) (adds t x n (place s n))

unfoldable pub held_by_others : Table → List ℕ → ℕ → ℕ
held_by_others t s x = held_below t.tree.nodes t s x

-- The others all yield and hold these locks, or one of them keeps the processor, and nothing is left.
unfoldable pub leaves : Bool → ℕ → Option ℕ
leaves true locks = Some locks
leaves false locks = None

-- Open alone asks for blocking locks: none of them is among these, which the others hold.
unfoldable pub free_of : Table → ℕ → Step → Bool
free_of t locks (Start x) = true
free_of t locks (Open i) = not (blocked t (t.lock_set i) locks)
free_of t locks (Close x) = true
free_of t locks (Finish x) = true

-- First the bytes before i are read, and then those before i are written.
use Prim.Native.Nat.{ℕ, ◌+◌, ◌<◌}
use mathlib.Core.Path.{◌≡◌}
use lib.ListN.{length, get_or, take}
use lib.Seq.{sets}
use Rattle.store.proofs.store_eight.Given as goal

abbrev pub invariant-loop-i : goal.invariant-loop-i
invariant-loop-i l = (length l.eight ≡ 8) × ((j : ℕ) → j < l.i → get_or l.eight j 0 ≡ get_or l.from (l.at + j) 0)

abbrev pub invariant-loop-i-2 : goal.invariant-loop-i-2
invariant-loop-i-2 l = l.out ≡ sets l.initial.out l.k (take l.i l.eight)

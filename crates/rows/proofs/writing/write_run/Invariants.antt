use Rattle.rows.specs.Writing.{run_pairs}
use Rattle.rows.proofs.Pairs.{StillWrites}
use mathlib.Core.Path.{◌≡◌}
use Prim.Native.Nat.{◌+◌, ◌*◌, ◌-◌}
use Rattle.rows.proofs.writing.write_run.Given as goal

abbrev pub invariant-loop-j : goal.invariant-loop-j
invariant-loop-j l = (l.k ≡ l.at + 2 * (l.j - l.from)) × (StillWrites l.initial.out l.at (run_pairs l.i l.from l.n) l.out l.k (run_pairs l.i l.j (l.from + l.n - l.j)))

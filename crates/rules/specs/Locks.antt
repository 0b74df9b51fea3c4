-- Lock sets: numbers whose bits name locks.
-- Assumes nothing.
use Rattle.std.specs.Prelude.{ℕ, ◌^◌, ◌/◌, ◌%◌, Bool, ◌&&◌, eqb}
use Rattle.rules.specs.Bounded.{some_below}
use Rattle.rules.specs.Table.{Table, blocking, mask}
use Rattle.rules.specs.Preemption.{at_or_below}

-- Lock k is in the set s: bit k of the number is set.
unfoldable pub in_set : ℕ → ℕ → Bool
in_set k s = eqb (s / 2 ^ k % 2) 1

-- Lock k is a mask that covers task x: x is its covered node or lies below it.
unfoldable pub covers : Table → ℕ → ℕ → Bool
covers t k x = eqb (t.lock_kind k) mask && at_or_below t.tree x (t.covered k)

-- Some mask in the set s covers task x.
unfoldable pub masked : Table → ℕ → ℕ → Bool
masked t s x = some_below t.locks (λ k. in_set k s && covers t k x)

-- Some blocking lock is in both sets.
unfoldable pub blocked : Table → ℕ → ℕ → Bool
blocked t r s = some_below t.locks (λ k. in_set k r && in_set k s && eqb (t.lock_kind k) blocking)

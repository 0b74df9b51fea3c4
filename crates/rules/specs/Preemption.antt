-- Preemption: the nearest common scheduler of two tasks decides.
-- Every climb goes from a node to its parent while that has a smaller number, so it ends, at the root of an accepted table.
-- Assumes nothing.
use Rattle.std.specs.Prelude.{ℕ, zero, suc, Bool, not, ◌&&◌, ◌||◌, cond, ltb, eqb}
use Rattle.rules.specs.Table.{Tree, preemptive, time_sliced, is_task}

-- The climb from n, of at most f steps, comes to a.
unfoldable pub climbs_to : ℕ → Tree → ℕ → ℕ → Bool
climbs_to zero t a n = eqb n a
climbs_to (suc f) t a n = eqb n a || (ltb (t.parent n) n && climbs_to f t a (t.parent n))

-- n is a, or lies below it.
unfoldable pub at_or_below : Tree → ℕ → ℕ → Bool
at_or_below t n a = climbs_to n t a n

-- a is an ancestor of n.
unfoldable pub is_ancestor : Tree → ℕ → ℕ → Bool
is_ancestor t a n = not (eqb n a) && at_or_below t n a

-- The first node above u, of at most f, that x lies below.
unfoldable pub nearest_above : ℕ → Tree → ℕ → ℕ → ℕ
nearest_above zero t x u = 0
nearest_above (suc f) t x u =
    let higher = nearest_above f t x (t.parent u) in
    cond (ltb (t.parent u) u) (cond (at_or_below t x (t.parent u)) (t.parent u) higher) 0

-- The nearest common scheduler of the different tasks x and u.
unfoldable pub nearest_common : Tree → ℕ → ℕ → ℕ
nearest_common t x u = nearest_above u t x u

-- The first node on the climb from n, of at most f steps, whose parent is p.
unfoldable pub climbs_under : ℕ → Tree → ℕ → ℕ → ℕ
climbs_under zero t p n = n
climbs_under (suc f) t p n =
    let higher = climbs_under f t p (t.parent n) in
    cond (ltb (t.parent n) n && not (eqb (t.parent n) p)) higher n

-- The child of p that is above or equal to n.
unfoldable pub child_above : Tree → ℕ → ℕ → ℕ
child_above t p n = climbs_under n t p n

-- Does scheduler p let what is at or below its child a preempt what is at or below its child b? Time-sliced: yes. Preemptive: if a ranks
-- higher. Else no.
unfoldable pub allows : Tree → ℕ → ℕ → ℕ → Bool
allows t p a b = eqb (t.kind p) time_sliced || (eqb (t.kind p) preemptive && ltb a b)

-- Task x may preempt task u. No task preempts itself; asked of a number that is no task, the answer is no.
unfoldable pub may_preempt : Tree → ℕ → ℕ → Bool
may_preempt t x u =
    let p = nearest_common t x u in
    is_task t x && is_task t u && not (eqb x u) && allows t p (child_above t p x) (child_above t p u)

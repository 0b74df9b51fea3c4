-- Thresholds exist exactly when each node allows them; and `all` over the numbers below n, with a closure that computes p, answers whether each
-- number below n passes.
-- Assumes nothing.
use Prim.Native.Nat.{ℕ, zero, suc, ◌+◌}
use mathlib.Core.Path.{◌≡◌, refl, ◌∙◌, ap}
use mathlib.Core.Bool.{Bool, true, false, ◌&&◌}
use mathlib.Core.List.{List, [], ◌∷◌, ◌++◌}
use native.Mathlib.Omega.{arith}
use denote.Param.Members.{Mut}
use Rattle.std.specs.declared.ops.Range.{Range}
use Rattle.std.specs.Fn.{Called}
use Rattle.std.specs.Iterator.{YieldsThen}
use Rattle.std.specs.List.{FoldsTo, list_all, range_with_len}
use Rattle.std.specs.Option.{MatchOption}
use Rattle.std.specs.Prelude.{Option}
use Rattle.std.proofs.iter.Yields.{nat_range_steps}
use Rattle.std.proofs.lemmas.Iterator.{YieldsList-from_range}
use Rattle.std.proofs.lemmas.Iterator.Search.{all_from_yields_List}
use Rattle.std.proofs.lemmas.List.Folds.{list_all-append}
use Rattle.rules.specs.Bounded.{all_below}
use Rattle.rules.specs.Table.{Tree}
use Rattle.rules.specs.Priorities.{has_thresholds}
use Rattle.priorities.specs.Numbering.{may_have}

last_of : (a n m : ℕ) → a + n ≡ m → range_with_len a (suc n) ≡ range_with_len a n ++ (m ∷ [])
last_of a zero m e = let z : a ≡ m = omega arith in rw z
last_of a (suc n) m e = ap (λ (r : List ℕ). a ∷ r) (last_of (a + 1) n m (omega arith))

and_true : (b : Bool) → (b && true) ≡ b
and_true true = refl
and_true false = refl

each_below : (n : ℕ) (p : ℕ → Bool) → list_all p (range_with_len 0 n) ≡ all_below n p
unfolding all_below
each_below zero p = refl
each_below (suc n) p =
    ap (list_all p) (last_of 0 n n (omega arith)) ∙ list_all-append p (range_with_len 0 n) (n ∷ []) ∙ rw (each_below n p, and_true (p n))

pub all_pass : {F : Type 0} {g : Mut F (ℕ × Unit {0}) Bool} {s : Range ℕ} (p : ℕ → Bool) (m n : ℕ) (u : Range ℕ) (f : F) (r : Bool)
    → (xs : List ℕ) × (o : Option ℕ) × (j : F) × YieldsThen nat_range_steps s xs o u × FoldsTo (λ h x q. Called g h (x, tt) true q) f xs j × MatchOption o (r ≡ true) (λ x. (r ≡ false) × ((h : F) × Called g j (x, tt) false h))
    → s ≡ record { start = 0; end = m } → m ≡ n → ((x : ℕ) (b : Bool) (q : F) → Called g f (x, tt) b q → (q ≡ f) × (b ≡ p x)) → r ≡ all_below n p
all_pass p m n u f r ran e z test =
    all_from_yields_List p u f r ran (YieldsList-from_range 0 m n e (omega arith)) test ∙ each_below n p

pub each_has : (t : Tree) → all_below t.nodes (may_have t) ≡ has_thresholds t
unfolding has_thresholds may_have
each_has t = refl

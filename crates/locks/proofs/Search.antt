-- A search through the numbers below n, first to last, finds one that passes exactly where some number below n passes.
-- Assumes nothing.
use Prim.Native.Nat.{ℕ, zero, suc, ◌+◌}
use mathlib.Core.Path.{◌≡◌, refl, ◌∙◌, ap}
use mathlib.Core.Bool.{Bool, true, false, ◌||◌}
use mathlib.Core.List.{List, [], ◌∷◌, ◌++◌}
use native.Mathlib.Omega.{arith}
use denote.Param.Members.{Mut}
use Rattle.std.specs.declared.ops.Range.{Range}
use Rattle.std.specs.Fn.{Called}
use Rattle.std.specs.Iterator.{YieldsThen}
use Rattle.std.specs.List.{FoldsTo, list_any, range_with_len}
use Rattle.std.specs.Option.{MatchOption}
use Rattle.std.specs.Prelude.{Option}
use Rattle.std.proofs.iter.Yields.{nat_range_steps}
use Rattle.std.proofs.lemmas.Iterator.{YieldsList-from_range}
use Rattle.std.proofs.lemmas.Iterator.Search.{any_from_yields_List}
use Rattle.std.proofs.lemmas.List.Folds.{list_any-append}
use Rattle.rules.specs.Bounded.{some_below}

-- The last of one number more stands behind the others.
last_of : (a n m : ℕ) → a + n ≡ m → range_with_len a (suc n) ≡ range_with_len a n ++ (m ∷ [])
last_of a zero m e = let z : a ≡ m = omega arith in rw z
last_of a (suc n) m e = ap (λ (r : List ℕ). a ∷ r) (last_of (a + 1) n m (omega arith))

or_false : (b : Bool) → (b || false) ≡ b
or_false true = refl
or_false false = refl

pub searched : (n : ℕ) (p : ℕ → Bool) → list_any p (range_with_len 0 n) ≡ some_below n p
unfolding some_below
searched zero p = refl
searched (suc n) p =
    ap (list_any p) (last_of 0 n n (omega arith)) ∙ list_any-append p (range_with_len 0 n) (n ∷ []) ∙ rw (searched n p, or_false (p n))

-- So `any` over the numbers below n, with a closure that computes p, answers whether some number below n passes.
pub some_passes : {F : Type 0} {g : Mut F (ℕ × Unit {0}) Bool} {s : Range ℕ} (p : ℕ → Bool) (m n : ℕ) (u : Range ℕ) (f : F) (r : Bool)
    → (xs : List ℕ) × (o : Option ℕ) × (j : F) × YieldsThen nat_range_steps s xs o u × FoldsTo (λ h x q. Called g h (x, tt) false q) f xs j × MatchOption o (r ≡ false) (λ x. (r ≡ true) × ((h : F) × Called g j (x, tt) true h))
    → s ≡ record { start = 0; end = m } → m ≡ n → ((x : ℕ) (b : Bool) (q : F) → Called g f (x, tt) b q → (q ≡ f) × (b ≡ p x)) → r ≡ some_below n p
some_passes p m n u f r ran e z test =
    any_from_yields_List p u f r ran (YieldsList-from_range 0 m n e (omega arith)) test ∙ searched n p

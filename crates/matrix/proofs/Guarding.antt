-- The locks of a set, lowest first: what is left of the set gives the whole.
-- Assumes nothing.
use Prim.Native.Nat.{ℕ, ◌+◌, ◌^◌, ◌<◌}
use mathlib.Core.Path.{◌≡◌, refl, ◌∙◌, sym}
use mathlib.Core.Logic.{◌⊎◌, inl, inr}
use mathlib.Core.Bool.{Bool, true, false, not, ◌&&◌, ◌||◌, cond, false≢true}
use mathlib.Core.List.{List}
use native.Mathlib.Decide.{ℕ_discrete}
use native.Mathlib.Omega.{arith}
use lib.Dec.{eqb, ltb}
use lib.ListN.{length, get_or, set, length-set}
use lib.Seq.{get_or-set_same, get_or-set_other}
use lib.Bits.{bit_or}
use borrow.Author.Tests.{eq-eqb, ne_eqb, eqb-true, lt-ltb, le-ltb}
use Rattle.rules.specs.Bounded.{some_below}
use Rattle.rules.specs.Table.{Table, mask}
use Rattle.rules.specs.Locks.{in_set}
use Rattle.rules.proofs.Bools.{bool, and_left, and_right, and_both, or_cases, or_left, or_right}
use Rattle.rules.proofs.Bounded.{some_at}
use Rattle.rules.specs.Accepted.{Accepted}
use Rattle.table.specs.declared.Table as structs
use Rattle.table.specs.declared.kinds.LockKind.TheVariants as kinds
use Rattle.table.specs.Kinds.{lock_kind}
use Rattle.table.specs.Answers.{shown}
use Rattle.table.proofs.KindLaws.{mask_is}
use Rattle.table.proofs.Bounds.{covered_low}
use Rattle.matrix.specs.Words.{Held, Without, Unguarded, Masks}
use Rattle.rows.proofs.Bits.{has_zero}
use Rattle.rows.proofs.BitList.{Taken}
use Rattle.matrix.proofs.Stores.{added_at, same_test, below_next}
use Rattle.matrix.proofs.Preempting.{some_from}

-- The set x is still to do: what the word of lock k will be when the accesses a are added to those of x.
abbrev pub Holding : ℕ → ℕ → List ℕ → ℕ → ℕ
Holding a x g k = cond (in_set k x) (bit_or (get_or g k 0) a) (get_or g k 0)

hold_turn : (a x z y : ℕ) (g : List ℕ) → Taken x z y → z < length g
    → (k : ℕ) → Holding a y (set g z (bit_or (get_or g z 0) a)) k ≡ Holding a x g k
hold_turn a x z y g o b k = rw (o.rest k, added_at g z a k b) (side (ℕ_discrete k z))
  where
    side : Dec (k ≡ z)
        → cond (in_set k x && not (eqb k z)) (bit_or (cond (eqb z k) (bit_or (get_or g k 0) a) (get_or g k 0)) a) (cond (eqb z k) (bit_or (get_or g k 0) a) (get_or g k 0))
        ≡ cond (in_set k x) (bit_or (get_or g k 0) a) (get_or g k 0)
    side (yes d) = rw (d, o.there, eq-eqb z z refl)
    side (no d) = rw (ne_eqb k z d, ne_eqb z k (λ c. d (sym c))) (both (in_set k x))
      where
        both : (q : Bool) → cond (q && true) (bit_or (get_or g k 0) a) (get_or g k 0) ≡ cond q (bit_or (get_or g k 0) a) (get_or g k 0)
        both true = refl
        both false = refl

-- The words will be those of the whole set.
pub record StillHolds (a all : ℕ) (g₀ : List ℕ) (x : ℕ) (g : List ℕ) : Type 0 where
  pub sized : length g ≡ 32
  pub words : (k : ℕ) → Holding a x g k ≡ Holding a all g₀ k

pub hold_first : {a all : ℕ} {g : List ℕ} → length g ≡ 32 → StillHolds a all g all g
hold_first e = record { sized = e; words = λ k. refl }

pub hold_next : {a all x z y : ℕ} {g₀ g : List ℕ} → Taken x z y → StillHolds a all g₀ x g
    → StillHolds a all g₀ y (set g z (bit_or (get_or g z 0) a))
hold_next {a} {all} {x} {z} {y} {g₀} {g} o f =
    record {
      sized = rw length-set f.sized;
      words = λ k. hold_turn a x z y g o (rw f.sized o.inside) k ∙ f.words k;
    }

pub hold_end : {a all x : ℕ} {g₀ g : List ℕ} → x ≡ 0 → StillHolds a all g₀ x g → Held a all g₀ g
hold_end {a} {all} {x} {g₀} {g} e f =
    record { sized = f.sized; words = λ k. done k ∙ f.words k }
  where
    done : (k : ℕ) → get_or g k 0 ≡ Holding a x g k
    done k = rw (e, has_zero k)

-- Some number of the set below 32 passes.
abbrev some_in : ℕ → (ℕ → Bool) → Bool
some_in x p = some_below 32 (λ k. in_set k x && p k)

some_taken : (x z y : ℕ) (p : ℕ → Bool) → Taken x z y → some_in x p ≡ (p z || some_in y p)
some_taken x z y p o = same_test (some_in x p) (p z || some_in y p) into (λ e. back (or_cases (p z) (some_in y p) e))
  where
    into : some_in x p ≡ true → (p z || some_in y p) ≡ true
    into e = side (some_at 32 (λ k. in_set k x && p k) e)
      where
        at : (k : ℕ) → k < 32 → (in_set k x && p k) ≡ true → Dec (k ≡ z) → (p z || some_in y p) ≡ true
        at k h q (yes d) = or_left (p z) _ (rw d at (and_right (in_set k x) (p k) q))
        at k h q (no d) =
            or_right (p z) _ (some_from 32 (λ k. in_set k y && p k) k h
            (rw (o.rest k, and_left (in_set k x) (p k) q, ne_eqb k z d) (and_right (in_set k x) (p k) q)))

        side : (k : ℕ) × (k < 32) × ((in_set k x && p k) ≡ true) → (p z || some_in y p) ≡ true
        side r = at r.0 r.1 r.2 (ℕ_discrete r.0 z)

    back : (p z ≡ true) ⊎ (some_in y p ≡ true) → some_in x p ≡ true
    back (inl e) = some_from 32 (λ k. in_set k x && p k) z o.inside (and_both (in_set z x) (p z) o.there e)
    back (inr e) =
        let r = some_at 32 (λ k. in_set k y && p k) e in
        let q : (in_set r.0 x && not (eqb r.0 z)) ≡ true = sym (o.rest r.0) ∙ and_left (in_set r.0 y) (p r.0) r.2 in
        some_from 32 (λ k. in_set k x && p k) r.0 r.1
        (and_both (in_set r.0 x) (p r.0) (and_left (in_set r.0 x) (not (eqb r.0 z)) q) (and_right (in_set r.0 y) (p r.0) r.2))

-- Is bit j still set when the locks of x, too, have been taken off?
abbrev Leaves : List ℕ → ℕ → ℕ → ℕ → Bool
Leaves g w x j = in_set j w && not (some_in x (λ k. in_set j (get_or g k 0)))

-- What the whole set leaves of w₀.
pub record StillLeaves (g : List ℕ) (w₀ all w x : ℕ) : Type 0 where
  pub fits : w < 2 ^ 64
  pub bits : (j : ℕ) → j < 64 → Leaves g w x j ≡ Leaves g w₀ all j

pub leaves_first : {g : List ℕ} {w all : ℕ} → w < 2 ^ 64 → StillLeaves g w all w all
leaves_first h = record { fits = h; bits = λ j h. refl }

morgan : (a b c : Bool) → ((a && not b) && not c) ≡ (a && not (b || c))
morgan true true c = refl
morgan true false c = refl
morgan false b c = refl

pub leaves_next : {g : List ℕ} {w₀ all w x z y r : ℕ} → Taken x z y → Without w (get_or g z 0) r → StillLeaves g w₀ all w x
    → StillLeaves g w₀ all r y
leaves_next {g} {w₀} {all} {w} {x} {z} {y} {r} o v f = record { fits = omega (arith, v.less, f.fits); bits = λ j h. turn j h ∙ f.bits j h }
  where
    turn : (j : ℕ) → j < 64 → Leaves g r y j ≡ Leaves g w x j
    turn j h =
        rw (v.bits j h, some_taken x z y (λ k. in_set j (get_or g k 0)) o)
        (morgan (in_set j w) (in_set j (get_or g z 0)) (some_in y (λ k. in_set j (get_or g k 0))))

pub leaves_none : {g : List ℕ} {w₀ all w x : ℕ} → w ≡ 0 → StillLeaves g w₀ all w x → Unguarded g w₀ all 0
leaves_none {g} {w₀} {all} {w} {x} e f = record { fits = omega arith; bits = λ j h. none j ∙ f.bits j h }
  where
    none : (j : ℕ) → in_set j 0 ≡ Leaves g w x j
    none j = rw (e, has_zero j)

pub leaves_end : {g : List ℕ} {w₀ all w x : ℕ} → x ≡ 0 → StillLeaves g w₀ all w x → Unguarded g w₀ all w
leaves_end {g} {w₀} {all} {w} {x} e f = record { fits = f.fits; bits = λ j h. done j ∙ f.bits j h }
  where
    and_true : (b : Bool) → b ≡ (b && true)
    and_true true = refl
    and_true false = refl

    nothing : (j : ℕ) → some_in 0 (λ k. in_set j (get_or g k 0)) ≡ false
    nothing j = side (bool (some_in 0 (λ k. in_set j (get_or g k 0))))
      where
        side : (some_in 0 (λ k. in_set j (get_or g k 0)) ≡ true) ⊎ (some_in 0 (λ k. in_set j (get_or g k 0)) ≡ false) → some_in 0 (λ k. in_set j (get_or g k 0)) ≡ false
        side (inl e) =
            let r = some_at 32 (λ k. in_set k 0 && in_set j (get_or g k 0)) e in
            absurd (false≢true (sym (has_zero r.0) ∙ and_left (in_set r.0 0) (in_set j (get_or g r.0 0)) r.2))
        side (inr e) = e

    done : (j : ℕ) → in_set j w ≡ Leaves g w x j
    done j = rw (e, nothing j) (and_true (in_set j w))

pub masks_none : {t : Table} {sub g : List ℕ} → Masks t 0 sub g g
masks_none = record { words = λ k. rw (le-ltb k 0 (omega arith)) }

pub masks_next : {t : Table} {n v : ℕ} {sub g₀ g : List ℕ} → n < length g
    → v ≡ cond (eqb (t.lock_kind n) mask) (get_or sub (t.covered n) 0) (get_or g n 0) → Masks t n sub g₀ g → Masks t (n + 1) sub g₀ (set g n v)
masks_next {t} {n} {v} {sub} {g₀} {g} b e f = record { words = λ k. side k (ℕ_discrete k n) }
  where
    own : get_or g n 0 ≡ get_or g₀ n 0
    own = f.words n ∙ rw (le-ltb n n (omega arith))

    or_false : (a : Bool) → a ≡ (a || false)
    or_false true = refl
    or_false false = refl

    side : (k : ℕ) → Dec (k ≡ n) → get_or (set g n v) k 0 ≡ cond (ltb k (n + 1) && eqb (t.lock_kind k) mask) (get_or sub (t.covered k) 0) (get_or g₀ k 0)
    side k (yes d) = rw (d, lt-ltb n (n + 1) (omega arith)) (get_or-set_same g n v 0 b ∙ e ∙ rw own)
    side k (no d) = rw (below_next k n, ne_eqb k n d, ← or_false (ltb k n)) (get_or-set_other g n k v 0 d ∙ f.words k)

-- A mask's covered node is one of the 128.
pub covered_by_mask : (t : structs.Table) → Accepted (shown t) → (k : ℕ) → k < t.locks → kinds.Mask ≡ lock_kind ((shown t).lock_kind k)
    → (shown t).covered k < 128
covered_by_mask t ok k h e = covered_low t ok k h (eqb-true _ _ (mask_is _ e))

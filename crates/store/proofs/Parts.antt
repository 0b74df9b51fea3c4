-- Parts of a buffer: what a store of a part leaves at each place; and a line that is stored in overlapping pieces of eight bytes, the last
-- piece of its tail first, is stored whole, since at each place the piece that is stored last holds the line's byte.
-- Assumes nothing.
use Prim.Native.Nat.{ℕ, zero, suc, ◌+◌, ◌-◌, ◌/◌, ◌<◌, ◌≤◌}
use mathlib.Core.Path.{◌≡◌, refl, sym, ◌∙◌, ap}
use mathlib.Core.Logic.{◌⊎◌, inl, inr}
use mathlib.Core.List.{List, [], ◌∷◌, ◌++◌}
use native.Mathlib.Decide.{dec_lt}
use native.Mathlib.Omega.{arith}
use lib.ListN.{length, get_or, set, take, drop, length-drop, length-append}
use lib.Seq.{sets, take-length, length-sets, length-take-le, get_or-take, get_or-drop, get_or-set_same, get_or-set_other, lt-length-set, ext_get_or}
use Rattle.rows.specs.Writing.{Wrote}
use Rattle.rows.proofs.Written.{sets_append}
use Rattle.store.specs.Parts.{part}

pub length_part : (k n : ℕ) (l : List ℕ) → k + n ≤ length l → length (part k n l) ≡ n
unfolding part
length_part k n l h = length-take-le n (drop k l) (omega (arith, length-drop k l))

part_at : (k n i : ℕ) (l : List ℕ) → i < n → get_or (part k n l) i 0 ≡ get_or l (k + i) 0
unfolding part
part_at k n i l h = get_or-take n (drop k l) i 0 h ∙ get_or-drop k l i 0

-- A place outside what is stored, and one inside.
outside : (vs l : List ℕ) (k i : ℕ) → (i < k) ⊎ (k + length vs ≤ i) → get_or (sets l k vs) i 0 ≡ get_or l i 0
outside [] l k i h = refl
outside (v ∷ vs) l k i (inl h) = outside vs (set l k v) (suc k) i (inl (omega arith)) ∙ get_or-set_other l k i v 0 (λ e. omega arith)
outside (v ∷ vs) l k i (inr h) = outside vs (set l k v) (suc k) i (inr (omega arith)) ∙ get_or-set_other l k i v 0 (λ e. omega arith)

inside : (vs l : List ℕ) (k i : ℕ) → i < length vs → k + i < length l → get_or (sets l k vs) (k + i) 0 ≡ get_or vs i 0
inside [] l k i h b = absurd (omega arith)
inside (v ∷ vs) l k zero h b =
    let z : k + 0 ≡ k = omega arith in
    rw z (outside vs (set l k v) (suc k) k (inl (omega arith)) ∙ get_or-set_same l k v 0 (omega arith))
inside (v ∷ vs) l k (suc i) h b =
    let z : k + suc i ≡ suc k + i = omega arith in
    rw z (inside vs (set l k v) (suc k) i (omega arith) (lt-length-set l k v (omega arith)))

-- The w bytes of from at a, stored at k.
module _ (from l : List ℕ) (a w k i : ℕ) (h : a + w ≤ length from) where
  out_part : (i < k) ⊎ (k + w ≤ i) → get_or (sets l k (part a w from)) i 0 ≡ get_or l i 0
  out_part (inl e) = outside (part a w from) l k i (inl e)
  out_part (inr e) = outside (part a w from) l k i (inr (omega (arith, length_part a w from h)))

  in_part : k ≤ i → i < k + w → i < length l → get_or (sets l k (part a w from)) i 0 ≡ get_or from (a + (i - k)) 0
  in_part e f b =
      let z : k + (i - k) ≡ i = omega arith in
      rw z at (inside (part a w from) l k (i - k) (omega (arith, length_part a w from h)) (omega arith)) ∙ part_at a w (i - k) from (omega arith)

  -- A place that holds v, and would hold v if it were stored over, holds v.
  over : (v : ℕ) → i < length l → (k ≤ i → i < k + w → get_or from (a + (i - k)) 0 ≡ v) → get_or l i 0 ≡ v → get_or (sets l k (part a w from)) i 0 ≡ v
  over v b f e = side (dec_lt i k) (dec_lt i (k + w))
    where
      side : Dec (i < k) → Dec (i < k + w) → get_or (sets l k (part a w from)) i 0 ≡ v
      side (yes p) q = out_part (inl p) ∙ e
      side (no p) (no q) = out_part (inr (omega arith)) ∙ e
      side (no p) (yes q) = in_part (omega arith) q b ∙ f (omega arith) q

-- A part that was just stored, and a part before what was stored.
pub part_stored : (vs l : List ℕ) (k : ℕ) → k + length vs ≤ length l → part k (length vs) (sets l k vs) ≡ vs
part_stored vs l k h =
    let n : length (part k (length vs) (sets l k vs)) ≡ length vs = length_part k (length vs) (sets l k vs) (omega (arith, length-sets l k vs)) in
    ext_get_or 0 _ _ n (λ i b. part_at k (length vs) i (sets l k vs) (omega arith) ∙ inside vs l k i (omega arith) (omega arith))

pub part_before : (vs l : List ℕ) (k a n : ℕ) → a + n ≤ k → k ≤ length l → part a n (sets l k vs) ≡ part a n l
part_before vs l k a n h b =
    let p : length (part a n (sets l k vs)) ≡ n = length_part a n (sets l k vs) (omega (arith, length-sets l k vs)) in
    let q : length (part a n l) ≡ n = length_part a n l (omega arith) in
    ext_get_or 0 _ _ (p ∙ sym q) (λ i c. part_at a n i (sets l k vs) (omega arith) ∙ outside vs l k (a + i) (inl (omega arith)) ∙ sym (part_at a n i l (omega arith)))

-- Bytes that were read one by one from a on.
pub part_read : (from eight : List ℕ) (a w i : ℕ) → i ≡ w → length eight ≡ w → a + w ≤ length from → ((j : ℕ) → j < i → get_or eight j 0 ≡ get_or from (a + j) 0)
    → take i eight ≡ part a w from
part_read from eight a w i e n h f =
    let z : length (part a w from) ≡ w = length_part a w from h in
    let t : take i eight ≡ eight = rw (e, ← n) (take-length eight) in
    t ∙ ext_get_or 0 _ _ (n ∙ sym z) (λ j b. f j (omega arith) ∙ sym (part_at a w j from (omega arith)))

-- A line: the tail's eight bytes, and then the head's first, middle and last eight, over what does not belong to the line.
module _
    (l m₁ m₂ m₃ m₄ head tails : List ℕ) (k h at n : ℕ) (long : 8 ≤ h) (short : h ≤ 24) (few : n ≤ 8) (room : k + h + n ≤ length l)
    (wide : h ≤ length head) (inside-tails : at + 8 ≤ length tails)
    (e₁ : m₁ ≡ sets l (k + h + n - 8) (part at 8 tails)) (e₂ : m₂ ≡ sets m₁ k (part 0 8 head))
    (e₃ : m₃ ≡ sets m₂ (k + (h - 8) / 2) (part ((h - 8) / 2) 8 head)) (e₄ : m₄ ≡ sets m₃ (k + (h - 8)) (part (h - 8) 8 head)) where
  sized₁ : length m₁ ≡ length l
  sized₁ = ap length e₁ ∙ length-sets l (k + h + n - 8) (part at 8 tails)

  sized₂ : length m₂ ≡ length l
  sized₂ = ap length e₂ ∙ length-sets m₁ k (part 0 8 head) ∙ sized₁

  sized₃ : length m₃ ≡ length l
  sized₃ = ap length e₃ ∙ length-sets m₂ (k + (h - 8) / 2) (part ((h - 8) / 2) 8 head) ∙ sized₂

  sized₄ : length m₄ ≡ length l
  sized₄ = ap length e₄ ∙ length-sets m₃ (k + (h - 8)) (part (h - 8) 8 head) ∙ sized₃

  module _ (i : ℕ) (b : i < length l) where
    last_over : k ≤ i → get_or m₃ i 0 ≡ get_or head (i - k) 0 → get_or m₄ i 0 ≡ get_or head (i - k) 0
    last_over p e =
        rw e₄ (over head m₃ (h - 8) 8 (k + (h - 8)) i (omega arith) (get_or head (i - k) 0) (omega (arith, sized₃)) (λ x y. ap (λ (z : ℕ). get_or head z 0) (omega arith)) e)

    middle_over : k ≤ i → get_or m₂ i 0 ≡ get_or head (i - k) 0 → get_or m₃ i 0 ≡ get_or head (i - k) 0
    middle_over p e =
        rw e₃ (over head m₂ ((h - 8) / 2) 8 (k + (h - 8) / 2) i (omega arith) (get_or head (i - k) 0) (omega (arith, sized₂)) (λ x y. ap (λ (z : ℕ). get_or head z 0) (omega arith)) e)

    first_eight : k ≤ i → i < k + 8 → get_or m₂ i 0 ≡ get_or head (i - k) 0
    first_eight p q = rw e₂ (in_part head m₁ 0 8 k i (omega arith) p q (omega (arith, sized₁)) ∙ ap (λ (z : ℕ). get_or head z 0) (omega arith))

    middle_eight : k + (h - 8) / 2 ≤ i → i < k + (h - 8) / 2 + 8 → get_or m₃ i 0 ≡ get_or head (i - k) 0
    middle_eight p q = rw e₃ (in_part head m₂ ((h - 8) / 2) 8 (k + (h - 8) / 2) i (omega arith) p q (omega (arith, sized₂)) ∙ ap (λ (z : ℕ). get_or head z 0) (omega arith))

    last_eight : k + (h - 8) ≤ i → i < k + (h - 8) + 8 → get_or m₄ i 0 ≡ get_or head (i - k) 0
    last_eight p q = rw e₄ (in_part head m₃ (h - 8) 8 (k + (h - 8)) i (omega arith) p q (omega (arith, sized₃)) ∙ ap (λ (z : ℕ). get_or head z 0) (omega arith))

    in_head : k ≤ i → i < k + h → Dec (i < k + 8) → Dec (i < k + (h - 8) / 2 + 8) → get_or m₄ i 0 ≡ get_or head (i - k) 0
    in_head p q (yes a) c = last_over p (middle_over p (first_eight p a))
    in_head p q (no a) (yes c) = last_over p (middle_eight (omega arith) c)
    in_head p q (no a) (no c) = last_eight (omega arith) (omega arith)

    past_head : (i < k) ⊎ (k + h ≤ i) → get_or m₄ i 0 ≡ get_or m₁ i 0
    past_head (inl d) =
        ap (λ (m : List ℕ). get_or m i 0) e₄ ∙ out_part head m₃ (h - 8) 8 (k + (h - 8)) i (omega arith) (inl (omega arith))
        ∙ ap (λ (m : List ℕ). get_or m i 0) e₃ ∙ out_part head m₂ ((h - 8) / 2) 8 (k + (h - 8) / 2) i (omega arith) (inl (omega arith))
        ∙ ap (λ (m : List ℕ). get_or m i 0) e₂ ∙ out_part head m₁ 0 8 k i (omega arith) (inl d)
    past_head (inr d) =
        ap (λ (m : List ℕ). get_or m i 0) e₄ ∙ out_part head m₃ (h - 8) 8 (k + (h - 8)) i (omega arith) (inr (omega arith))
        ∙ ap (λ (m : List ℕ). get_or m i 0) e₃ ∙ out_part head m₂ ((h - 8) / 2) 8 (k + (h - 8) / 2) i (omega arith) (inr (omega arith))
        ∙ ap (λ (m : List ℕ). get_or m i 0) e₂ ∙ out_part head m₁ 0 8 k i (omega arith) (inr (omega arith))

    past_tail : (i < k + h) ⊎ (k + h + n ≤ i) → get_or (sets (sets l k (part 0 h head)) (k + h) (part (at + 8 - n) n tails)) i 0 ≡ get_or (sets l k (part 0 h head)) i 0
    past_tail d = out_part tails (sets l k (part 0 h head)) (at + 8 - n) n (k + h) i (omega arith) d

    each : Dec (i < k) → Dec (i < k + h) → Dec (i < k + h + n) → get_or m₄ i 0 ≡ get_or (sets (sets l k (part 0 h head)) (k + h) (part (at + 8 - n) n tails)) i 0
    each (yes x) y z =
        past_head (inl x) ∙ ap (λ (m : List ℕ). get_or m i 0) e₁ ∙ out_part tails l at 8 (k + h + n - 8) i (omega arith) (inl (omega arith))
        ∙ sym (past_tail (inl (omega arith)) ∙ out_part head l 0 h k i (omega arith) (inl x))
    each (no x) (yes y) z =
        in_head (omega arith) y (dec_lt i (k + 8)) (dec_lt i (k + (h - 8) / 2 + 8))
        ∙ sym (past_tail (inl y) ∙ in_part head l 0 h k i (omega arith) (omega arith) y b ∙ ap (λ (z : ℕ). get_or head z 0) (omega arith))
    each (no x) (no y) (yes z) =
        past_head (inr (omega arith)) ∙ ap (λ (m : List ℕ). get_or m i 0) e₁ ∙ in_part tails l at 8 (k + h + n - 8) i (omega arith) (omega arith) (omega arith) b
        ∙ ap (λ (z : ℕ). get_or tails z 0) (omega arith)
        ∙ sym (in_part tails (sets l k (part 0 h head)) (at + 8 - n) n (k + h) i (omega arith) (omega arith) (omega arith) (omega (arith, length-sets l k (part 0 h head))))
    each (no x) (no y) (no z) =
        past_head (inr (omega arith)) ∙ ap (λ (m : List ℕ). get_or m i 0) e₁ ∙ out_part tails l at 8 (k + h + n - 8) i (omega arith) (inr (omega arith))
        ∙ sym (past_tail (inr (omega arith)) ∙ out_part head l 0 h k i (omega arith) (inr (omega arith)))

  line_stored : m₄ ≡ sets l k (part 0 h head ++ part (at + 8 - n) n tails)
  line_stored =
      let s : length (sets (sets l k (part 0 h head)) (k + h) (part (at + 8 - n) n tails)) ≡ length l = length-sets (sets l k (part 0 h head)) (k + h) (part (at + 8 - n) n tails) ∙ length-sets l k (part 0 h head) in
      let w : m₄ ≡ sets (sets l k (part 0 h head)) (k + h) (part (at + 8 - n) n tails) =
      ext_get_or 0 _ _ (sized₄ ∙ sym s) (λ i b. each i (omega (arith, sized₄)) (dec_lt i k) (dec_lt i (k + h)) (dec_lt i (k + h + n))) in
      let z : length (part 0 h head) ≡ h = length_part 0 h head (omega arith) in
      w ∙ sym (rw z at (sets_append (part 0 h head) (part (at + 8 - n) n tails) l k))

  pub line_wrote : h ≡ length head → Wrote l k (head ++ part (at + 8 - n) n tails) m₄ (k + h + n)
  line_wrote e =
      let w : part 0 h head ≡ head = (unfold part in rw e (take-length head)) in
      let b : length (part (at + 8 - n) n tails) ≡ n = length_part (at + 8 - n) n tails (omega arith) in
      record { bytes = rw w at line_stored; place = rw (length-append, b) (omega arith) }

-- A word by runs of set bits: the zeros below the lowest bit, the run of bits that stands there, and the rest.
-- Assumes nothing.
use Prim.Native.Nat.{ℕ, zero, suc, ◌+◌, ◌*◌, ◌-◌, ◌^◌, ◌/◌, ◌%◌, ◌<◌, ◌≤◌}
use mathlib.Core.Path.{◌≡◌, refl, ◌∙◌, sym}
use mathlib.Core.Logic.{◌≢◌}
use mathlib.Core.List.{[], ◌∷◌, ◌++◌}
use native.Mathlib.Omega.{arith}
use native.Mathlib.Nat.{pow-suc}
use lib.ListN.{length}
use lib.Pow.{shr-shr, shr_lt, pow_pos, pow_mono}
use lib.Count.{count_trailing_zeros, under}
use borrow.Author.Tests.{eq-eqb, ne_eqb}
use Rattle.rows.specs.Writing.{bit_pairs, run_pairs}

pub run_turn : (i j e : ℕ) → j < e → run_pairs i j (e - j) ≡ i ∷ j ∷ run_pairs i (j + 1) (e - (j + 1))
unfolding run_pairs
run_turn i j e h = let d : e - j ≡ suc (e - (j + 1)) = omega arith in rw d

pub run_end : (i j e : ℕ) → e ≤ j → run_pairs i j (e - j) ≡ []
unfolding run_pairs
run_end i j e h = let d : e - j ≡ 0 = omega arith in rw d

pub run_length : (i j n : ℕ) → length (run_pairs i j n) ≡ 2 * n
unfolding run_pairs
run_length i j zero = refl
run_length i j (suc n) = let r = run_length i (j + 1) n in omega arith

not_odd : {m : ℕ} → m ≡ 0 → m ≢ 1
not_odd e o = omega arith

-- The zeros below the lowest bit.
pub record Zeros (d i j x z : ℕ) : Type 0 where
  pub inside : z < d
  pub eq : bit_pairs d i j x ≡ bit_pairs (d - z) i (j + z) (x / 2 ^ z)
  pub odd : x / 2 ^ z % 2 ≡ 1

zeros_none : (d i j x : ℕ) → x % 2 ≡ 1 → Zeros (suc d) i j x 0
zeros_none d i j x e =
    let a : j + 0 ≡ j = omega arith in
    let b : suc d - 0 ≡ suc d = omega arith in
    let q : x / 2 ^ 0 ≡ x = omega arith in
    record { inside = omega arith; eq = rw (a, b, q); odd = rw q e }

zeros_more : (d i j x z : ℕ) → x % 2 ≡ 0 → Zeros d i (j + 1) (x / 2) z → Zeros (suc d) i j x (suc z)
unfolding bit_pairs
zeros_more d i j x z e l =
    let a : j + suc z ≡ j + 1 + z = omega arith in
    let b : suc d - suc z ≡ d - z = omega arith in
    let p : 1 + z ≡ suc z = omega arith in
    let q : x / 2 ^ suc z ≡ x / 2 / 2 ^ z = sym (rw p at (shr-shr x 1 z)) in
    record { inside = omega (arith, l.inside); eq = rw (ne_eqb (x % 2) 1 (not_odd e), l.eq, a, b, q); odd = rw q l.odd }

pub zeros : (w d i j x : ℕ) → d ≤ w → x < 2 ^ d → x ≢ 0 → Zeros d i j x (count_trailing_zeros w x)
unfolding count_trailing_zeros
zeros w zero i j x h b n = absurd (n (omega arith))
zeros zero (suc d) i j x h b n = absurd (omega arith)
zeros (suc w) (suc d) i j x h b n = side (x % 2) refl (λ z. zeros w d i (j + 1) (x / 2) (omega arith) (omega (arith, pow-suc 2 d)) z)
  where
    side : (m : ℕ) → x % 2 ≡ m → (x / 2 ≢ 0 → Zeros d i (j + 1) (x / 2) (count_trailing_zeros w (x / 2)))
        → Zeros (suc d) i j x (under m (count_trailing_zeros w (x / 2)))
    side zero e f = zeros_more d i j x (count_trailing_zeros w (x / 2)) e (f (λ z. n (omega arith)))
    side (suc m) e f = zeros_none d i j x (omega arith)

-- The run of bits at the low end.
pub record Run (d i j x l : ℕ) : Type 0 where
  pub inside : l ≤ d
  pub eq : bit_pairs d i j x ≡ run_pairs i j l ++ bit_pairs (d - l) i (j + l) (x / 2 ^ l)
  pub some : x % 2 ≡ 1 → 0 < l

run_none : (d i j x : ℕ) → x % 2 ≡ 0 → Run d i j x 0
unfolding run_pairs
run_none d i j x e =
    let a : j + 0 ≡ j = omega arith in
    let b : d - 0 ≡ d = omega arith in
    let q : x / 2 ^ 0 ≡ x = omega arith in
    record { inside = omega arith; eq = rw (a, b, q); some = λ o. absurd (not_odd e o) }

run_more : (d i j x l : ℕ) → x % 2 ≡ 1 → Run d i (j + 1) (x / 2) l → Run (suc d) i j x (suc l)
unfolding bit_pairs run_pairs
run_more d i j x l e r =
    let a : j + suc l ≡ j + 1 + l = omega arith in
    let b : suc d - suc l ≡ d - l = omega arith in
    let p : 1 + l ≡ suc l = omega arith in
    let q : x / 2 ^ suc l ≡ x / 2 / 2 ^ l = sym (rw p at (shr-shr x 1 l)) in
    record { inside = omega (arith, r.inside); eq = rw (eq-eqb (x % 2) 1 e, r.eq, a, b, q); some = λ o. omega arith }

-- It ends at the lowest bit of !x.
pub runs : (w d i j x : ℕ) → d ≤ w → x < 2 ^ d → Run d i j x (count_trailing_zeros w (2 ^ w - 1 - x))
unfolding count_trailing_zeros
runs zero d i j x h b = let z : d ≡ 0 = omega arith in run_none d i j x (omega (arith, rw z at b))
runs (suc w) zero i j x h b = side (2 ^ suc w - 1 - x) (omega (arith, pow-suc 2 w, pow_pos w))
  where
    side : (y : ℕ) → y % 2 ≡ 1 → Run zero i j x (under (y % 2) (count_trailing_zeros w (y / 2)))
    side y e = rw e (run_none zero i j x (omega arith))
runs (suc w) (suc d) i j x h b =
    let k : 2 ^ suc w ≡ 2 ^ w * 2 = pow-suc 2 w in
    let m : 2 ^ suc d ≡ 2 ^ d * 2 = pow-suc 2 d in
    let o : 2 ^ suc d ≤ 2 ^ suc w = pow_mono h in
    let e : (2 ^ suc w - 1 - x) / 2 ≡ 2 ^ w - 1 - x / 2 = omega (arith, k, m, b) in
    rw e (side (x % 2) refl (2 ^ suc w - 1 - x) (omega arith) (runs w d i (j + 1) (x / 2) (omega arith) (omega (arith, m))))
  where
    side : (v : ℕ) → x % 2 ≡ v → (y : ℕ) → y % 2 ≡ 1 - x % 2 → Run d i (j + 1) (x / 2) (count_trailing_zeros w (2 ^ w - 1 - x / 2))
        → Run (suc d) i j x (under (y % 2) (count_trailing_zeros w (2 ^ w - 1 - x / 2)))
    side zero e y f r = let g : y % 2 ≡ 1 = omega arith in rw g (run_none (suc d) i j x e)
    side (suc v) e y f r =
        let g : y % 2 ≡ 0 = omega arith in
        rw g (run_more d i j x (count_trailing_zeros w (2 ^ w - 1 - x / 2)) (omega arith) r)

-- Zeros, then a run, then the rest.
pub record Chunk (d i j x z l : ℕ) : Type 0 where
  pub some : 0 < l
  pub inside : z + l ≤ d
  pub eq : bit_pairs d i j x ≡ run_pairs i (j + z) l ++ bit_pairs (d - (z + l)) i (j + z + l) (x / 2 ^ z / 2 ^ (l - 1) / 2)
  pub bound : x / 2 ^ z / 2 ^ (l - 1) / 2 < 2 ^ (d - (z + l))

pub chunk :
    (d i j x : ℕ) → x < 2 ^ d → d ≤ 64 → x ≢ 0
    → Chunk d i j x (count_trailing_zeros 64 x) (count_trailing_zeros 64 (2 ^ 64 - 1 - x / 2 ^ count_trailing_zeros 64 x))
chunk d i j x b h n = from_start _ _ refl refl
  where
    from_start : (z l : ℕ) → z ≡ count_trailing_zeros 64 x → l ≡ count_trailing_zeros 64 (2 ^ 64 - 1 - x / 2 ^ z) → Chunk d i j x z l
    from_start z l e f =
        let q : Zeros d i j x z = rw e (zeros 64 d i j x h b n) in
        let m : d - z + z ≡ d = omega (arith, q.inside) in
        let y : x / 2 ^ z < 2 ^ (d - z) = shr_lt (d - z) z (rw m b) in
        let r : Run (d - z) i (j + z) (x / 2 ^ z) l = rw f (runs 64 (d - z) i (j + z) (x / 2 ^ z) (omega arith) y) in
        let p = r.some q.odd in
        let k : l - 1 + 1 ≡ l = omega arith in
        let g : x / 2 ^ z / 2 ^ (l - 1) / 2 ≡ x / 2 ^ z / 2 ^ l = rw k at (shr-shr (x / 2 ^ z) (l - 1) 1) in
        let o : d - z - l ≡ d - (z + l) = omega arith in
        let v : d - (z + l) + l ≡ d - z = omega (arith, q.inside, r.inside) in
        record {
          some = p;
          inside = omega (arith, q.inside, r.inside);
          eq = q.eq ∙ rw g (rw o at r.eq);
          bound = rw g (shr_lt (d - (z + l)) l (rw v y));
        }

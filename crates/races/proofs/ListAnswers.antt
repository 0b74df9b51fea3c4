-- What a list call answers, once its pairs are counted: 12 with the bytes needed, or their number, and their bytes from the start of the buffer.
-- The pairs are those of the rows that were found.
-- Assumes nothing.
use Prim.Native.Nat.{ℕ, zero, suc, ◌+◌, ◌*◌, ◌/◌, ◌≤◌, ◌<◌}
use mathlib.Core.Path.{◌≡◌, refl}
use mathlib.Core.List.{List, []}
use native.Mathlib.Omega.{arith}
use lib.ListN.{length, get_or, replicate}
use lib.Seq.{sets}
use borrow.Author.Tests.{le-leb, lt-leb}
use Rattle.std.specs.Prelude.{Ok, Err}
use Rattle.rules.specs.Bounded.{Pair, bytes_of}
use Rattle.rules.specs.Table.{Table}
use Rattle.rules.specs.Accepted.{Accepted}
use Rattle.rules.specs.Races.{races, illegals}
use Rattle.rules.specs.Reading.{read, Is, Refused}
use Rattle.rules.specs.Calls.{writing, reading, races_call, illegal_call}
use Rattle.rules.proofs.FewPairs.{bytes_length}
use Rattle.table.specs.declared.refusals.Fault.{Fault}
use Rattle.table.specs.declared.refusals.Refusal.TheVariants.{Room}
use Rattle.table.specs.Answers.{numbered, number, left}
use Rattle.rows.specs.Writing.{Wrote, rows_of}
use Rattle.rows.proofs.Written.{from_start}
use Rattle.matrix.specs.Matrix.{RaceRows, IllegalRows}
use Rattle.matrix.proofs.PairsFound.{race_pairs, illegal_pairs}

pub no_room : (f : Fault) (l : List ℕ) (ps : List Pair) (count : ℕ) → f ≡ record { refusal = Room; place = 2 * count } → count ≡ length ps → length l < 2 * count
    → left (Err f) l ≡ writing (bytes_of ps) (length ps) l
unfolding left writing number numbered
no_room f l ps count q e h =
    let z : 2 * count ≡ length (bytes_of ps) = omega (arith, bytes_length ps) in
    rw (q, lt-leb (length (bytes_of ps)) (length l) (omega arith), z)

pub room : (l m : List ℕ) (ps : List Pair) (count : ℕ) → count ≡ length ps → 2 * count ≤ length l → m ≡ sets l 0 (bytes_of ps)
    → left (Ok count) m ≡ writing (bytes_of ps) (length ps) l
unfolding left writing
room l m ps count e h w =
    let s : length (bytes_of ps) ≤ length l = omega (arith, bytes_length ps) in
    let v : Wrote l 0 (bytes_of ps) m (0 + length (bytes_of ps)) = record { bytes = w; place = refl } in
    rw (le-leb (length (bytes_of ps)) (length l) s, e, from_start v s)

pub wide_room : (l m : List ℕ) (ps : List Pair) (r : ℕ) → r ≡ 2 * length ps → 2 * length ps ≤ length l → m ≡ sets l 0 (bytes_of ps)
    → left (Ok (r / 2)) m ≡ writing (bytes_of ps) (length ps) l
wide_room l m ps r e h w = room l m ps (r / 2) (omega arith) (omega arith) w

-- The rows of a table's illegal locks have no high words.
zero_word : (n i : ℕ) → ◌≡◌ {A = ℕ} (get_or (replicate n 0) i 0) 0
zero_word zero i = refl
zero_word (suc n) zero = refl
zero_word (suc n) (suc i) = zero_word n i

no_highs : (low : List ℕ) (m n : ℕ) → rows_of low (replicate m 0) n ≡ rows_of low [] n
unfolding rows_of
no_highs low m zero = refl
no_highs low m (suc n) = rw (no_highs low m n, zero_word m n)

pub illegals_found : (t : Table) → Accepted t → {low₀ low high : List ℕ} (n : ℕ) → n ≡ t.accesses → IllegalRows t low₀ low → high ≡ replicate 128 0
    → rows_of low high n ≡ illegals t
illegals_found t ok {low₀} {low} n e r h = rw (e, h, no_highs low 128 t.accesses) (illegal_pairs t ok r)

pub races_found : (t : Table) → Accepted t → {low₀ high₀ low high : List ℕ} (n : ℕ) → n ≡ t.accesses → RaceRows t low₀ high₀ low high
    → rows_of low high n ≡ races t
races_found t ok n e r = rw e (race_pairs t ok r)

-- The whole calls: of a table that is refused, and of one that was read.
module _ (b out : List ℕ) where
  pub races_refused : (f : Fault) → read b ≡ Refused (number f) f.place → left (Err f) out ≡ races_call b out
  unfolding left races_call reading
  races_refused f e = rw e

  pub races_read : (t : Table) → read b ≡ Is t → writing (bytes_of (races t)) (length (races t)) out ≡ races_call b out
  unfolding races_call reading
  races_read t e = rw e

  pub illegal_refused : (f : Fault) → read b ≡ Refused (number f) f.place → left (Err f) out ≡ illegal_call b out
  unfolding left illegal_call reading
  illegal_refused f e = rw e

  pub illegal_read : (t : Table) → read b ≡ Is t → writing (bytes_of (illegals t)) (length (illegals t)) out ≡ illegal_call b out
  unfolding illegal_call reading
  illegal_read t e = rw e

-- The two answers for a text, once it is known how many bytes it has.
-- Assumes nothing.
use Prim.Native.Nat.{ℕ, ◌<◌, ◌≤◌}
use mathlib.Core.Path.{◌≡◌}
use mathlib.Core.List.{List}
use native.Mathlib.Omega.{arith}
use lib.ListN.{length}
use borrow.Author.Tests.{lt-leb, le-leb}
use Rattle.std.specs.Prelude.{Ok, Err}
use Rattle.rules.specs.Calls.{writing}
use Rattle.rules.specs.Listing.{writing_text}
use Rattle.table.specs.Answers.{numbered, number, left}
use Rattle.table.specs.declared.refusals.Fault.{Fault}
use Rattle.table.specs.declared.refusals.Refusal.TheVariants.{Room}
use Rattle.rows.specs.Writing.{Wrote}
use Rattle.rows.proofs.Written.{from_start}

module _ (t l : List ℕ) {need : ℕ} (p : need ≡ length t) where
  pub too_short : (f : Fault) → f ≡ record { refusal = Room; place = need } → length l < need → left (Err f) l ≡ writing_text t l
  unfolding left numbered number writing_text writing
  too_short f q h =
      let s : length l < length t = omega arith in
      rw (q, lt-leb (length t) (length l) s, p)

  pub fits : {m : List ℕ} {r : ℕ} → need ≤ length l → Wrote l 0 t m r → left (Ok r) m ≡ writing_text t l
  unfolding left writing_text writing
  fits {m} {r} h v =
      let q : r ≡ length t = omega (arith, v.place) in
      let s : length t ≤ length l = omega arith in
      rw (le-leb (length t) (length l) s, q, from_start v s)

-- What a run over another buffer counts.
pub counted : {e t d : List ℕ} {need : ℕ} → Wrote e 0 t d need → need ≡ length t
counted w = omega (arith, w.place)

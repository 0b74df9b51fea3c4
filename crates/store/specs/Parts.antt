-- Parts of a buffer.
-- Assumes nothing.
use Rattle.std.specs.Prelude.{ℕ, List, take, drop}

-- The n bytes of l from place k on.
unfoldable pub part : ℕ → ℕ → List ℕ → List ℕ
part k n l = take n (drop k l)

-- The listing: what the findings program writes, byte for byte.
-- Assumes nothing.
use Rattle.std.specs.Prelude.{ℕ, zero, suc, ◌+◌, ◌/◌, ◌%◌, cond, List, [], ◌∷◌, ◌++◌, ltb, length}
use Rattle.rules.specs.Bounded.{Pair}
use Rattle.rules.specs.Table.{Table}
use Rattle.rules.specs.Reading.{read}
use Rattle.rules.specs.Races.{races, illegals}
use Rattle.rules.specs.Calls.{Left, writing, reading}
use Rattle.rules.specs.Quoted.{codes}

-- The digits of n, at most f of them before the last.
unfoldable pub digits : ℕ → ℕ → List ℕ
digits zero n = (48 + n % 10) ∷ []
digits (suc f) n =
    let higher = digits f (n / 10) in
    cond (ltb n 10) [] higher ++ ((48 + n % 10) ∷ [])

-- n in decimal: it has at most n digits before the last.
unfoldable pub decimal : ℕ → List ℕ
decimal n = digits n n

-- Each number after a space.
unfoldable pub fields : List ℕ → List ℕ
fields [] = []
fields (n ∷ ns) = codes " " ++ decimal n ++ fields ns

-- A word and numbers, as a line.
unfoldable pub line : List ℕ → List ℕ → List ℕ
line word ns = word ++ fields ns ++ codes "\n"

-- A race line is: label in decimal, access i, its task, access j, its task.
unfoldable pub race_line : Table → Pair → List ℕ
race_line t p =
    line (codes "race")
    (t.label (t.resource_of p.one) ∷ p.one ∷ t.task_of p.one ∷ p.two ∷ t.task_of p.two ∷ [])

-- `illegal ACCESS TASK LOCK`.
unfoldable pub illegal_line : Table → Pair → List ℕ
illegal_line t p = line (codes "illegal") (p.one ∷ t.task_of p.one ∷ p.two ∷ [])

-- A line for each pair.
unfoldable pub lines : (Pair → List ℕ) → List Pair → List ℕ
lines f [] = []
lines f (p ∷ ps) = f p ++ lines f ps

-- A word and the number of pairs, as a line, and then a line for each.
unfoldable pub section : List ℕ → (Pair → List ℕ) → List Pair → List ℕ
section word f ps = line word (length ps ∷ []) ++ lines f ps

-- The races of a table, then its illegal pairs.
unfoldable pub text : Table → List Pair → List Pair → List ℕ
text t races illegals = section (codes "races") (race_line t) races ++ section (codes "illegal") (illegal_line t) illegals

unfoldable pub listing : Table → List ℕ
listing t = text t (races t) (illegals t)

-- `refused NUMBER at PLACE`.
unfoldable pub refused_line : ℕ → ℕ → List ℕ
refused_line n p = codes "refused" ++ fields (n ∷ []) ++ line (codes " at") (p ∷ [])

-- What the program writes of the bytes b.
unfoldable pub findings : List ℕ → List ℕ
findings b = reading (read b) refused_line listing

-- A text into a lent buffer. The call returns the number of bytes.
unfoldable pub writing_text : List ℕ → List ℕ → Left
writing_text bs out = writing bs (length bs) out

-- Only 12 can refuse the call: a table that is refused has its line.
unfoldable pub listing_call : List ℕ → List ℕ → Left
listing_call b out = writing_text (findings b) out

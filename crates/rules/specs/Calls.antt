-- The calls: each reads the table first, so 1 to 11 come before all others; then 13, then 12; for the machine 14 to 18.
-- A refused call leaves every lent byte as found. An accepted call writes only the bytes of its answer, from the start of the buffer.
-- Assumes nothing.
use Rattle.std.specs.Prelude.{ℕ, ◌*◌, cond, List, ◌++◌, leb, length, drop}
use Rattle.rules.specs.Bounded.{bytes_of}
use Rattle.rules.specs.Table.{Table}
use Rattle.rules.specs.Reading.{Reading, Is, Refused, read}
use Rattle.rules.specs.Preemption.{may_preempt}
use Rattle.rules.specs.Races.{races, illegals}
use Rattle.rules.specs.Priorities.{has_thresholds, thresholds}
use Rattle.rules.specs.Machine.{places, fresh, Step, Stepped, Granted, Denied, step}

-- A call answers a value, or is refused with a number and a place.
pub data Answer : Type 0 where
  Value : ℕ → Answer
  Refusal : ℕ → ℕ → Answer

-- What a call with a lent buffer leaves: its answer, and every byte of the buffer.
pub record Left : Type 0 where
  pub answer : Answer
  pub buffer : List ℕ

-- A refusal with number n and place p.
unfoldable pub refusing : ℕ → ℕ → List ℕ → Left
refusing n p out = record { answer = Refusal n p; buffer = out }

-- The bytes bs are written from the start of the buffer and the call answers v; 12, with the bytes needed, where the buffer is too short.
unfoldable pub writing : List ℕ → ℕ → List ℕ → Left
writing bs v out =
    cond (leb (length bs) (length out))
    (record { answer = Value v; buffer = bs ++ drop (length bs) out })
    (refusing 12 (length bs) out)

-- The bytes are read first.
unfoldable pub reading : {A : Type 0} → Reading → (ℕ → ℕ → A) → (Table → A) → A
reading (Is t) refused accepted = accepted t
reading (Refused n p) refused accepted = refused n p

unfoldable pub read_call : List ℕ → Answer
read_call b = reading (read b) Refusal (λ t. Value 0)

-- May task x preempt task u: 1 or 0.
unfoldable pub preempts_call : List ℕ → ℕ → ℕ → Answer
preempts_call b x u = reading (read b) Refusal (λ t. Value (cond (may_preempt t.tree x u) 1 0))

-- The call returns the number of pairs.
unfoldable pub races_call : List ℕ → List ℕ → Left
races_call b out =
    reading (read b) (λ n p. refusing n p out) (λ t. writing (bytes_of (races t)) (length (races t)) out)

unfoldable pub illegal_call : List ℕ → List ℕ → Left
illegal_call b out =
    reading (read b) (λ n p. refusing n p out) (λ t. writing (bytes_of (illegals t)) (length (illegals t)) out)

-- 13, at place 0, where there are no thresholds. The call returns the number of bytes.
unfoldable pub thresholds_call : List ℕ → List ℕ → Left
thresholds_call b out =
    reading (read b) (λ n p. refusing n p out) (λ t.
    cond (has_thresholds t.tree) (writing (thresholds t.tree) (t.tree.nodes * 2) out) (refusing 13 0 out))

-- A fresh state into a lent buffer. The call returns the number of places.
unfoldable pub fresh_call : List ℕ → Left
fresh_call out = writing fresh places out

-- A granted step leaves the next state, a denied one the state it was given.
unfoldable pub stepped : List ℕ → Stepped → Left
stepped s (Granted s') = record { answer = Value 0; buffer = s' }
stepped s (Denied n) = refusing n 0 s

unfoldable pub step_call : List ℕ → List ℕ → Step → Left
step_call b s c = reading (read b) (λ n p. refusing n p s) (λ t. stepped s (step t s c))

-- What a test in the code, found to pass or to fail, says of what it computes.
-- Assumes nothing.
use mathlib.Core.Path.{◌≡◌, sym, ◌∙◌}
use mathlib.Core.Bool.{Bool, true, false}

pub passes : {a b : Bool} → a ≡ b → a ≡ true → b ≡ true
passes e h = sym e ∙ h

pub fails : {a b : Bool} → a ≡ b → a ≡ false → b ≡ false
fails e h = sym e ∙ h

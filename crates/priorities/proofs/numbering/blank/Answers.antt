-- The bytes that are filled are those that a walk shows which has visited nothing.
use mathlib.Core.Path.{◌∙◌, ap}
use mathlib.Core.List.{List, ◌++◌}
use Prim.Native.Nat.{ℕ, ◌*◌}
use lib.ListN.{drop}
use Rattle.priorities.proofs.ShownWalks.{blanked}
use Rattle.priorities.proofs.numbering.blank.Goals as goal

pub returns : goal.returns
returns c =
    let a = c.args in
    ap (λ (l : List ℕ). l ++ drop (a.count * 2) a.out.now) (c.fill.ensures.after (λ y e. e) ∙ blanked a.count a.out.now c.requires.1)

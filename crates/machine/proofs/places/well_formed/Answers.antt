use Rattle.std.proofs.Common.{rules, tests, ap, ◌∙◌, ℕ}
use borrow.Author.Tests.{eq-eqb}
use Rattle.std.proofs.lemmas.Iterator.{YieldsList-from_slice}
use Rattle.std.proofs.lemmas.Iterator.Search.{all_from_yields_List}
use Rattle.std.proofs.lemmas.Iterator.Consumers.{YieldsList-from_enumerate}
use Rattle.rules.specs.Bounded.{all_below}
use Rattle.rules.specs.Machine.{place, place_right, well_formed}
use Rattle.table.specs.Answers.{shown}
use Rattle.machine.proofs.EachPlace.{each_place}
use Rattle.machine.proofs.places.well_formed.Goals as goal

pub returns : goal.returns
unfolding well_formed
returns c =
    let t = shown c.args.t.now in
    let p = c.args.p.now in
    rw (eq-eqb _ _ c.requires)
    (all_from_yields_List (λ (w : ℕ × ℕ). place_right t w.0 w.1) _ _ c.all.result c.all.ensures.ran
    (YieldsList-from_enumerate (YieldsList-from_slice p cc) cc)
    (λ x b q k. search (rules, tests))
    ∙ each_place (place_right t) p
    ∙ ap (λ (n : ℕ). all_below n (λ k. place_right t k (place p k))) c.requires)

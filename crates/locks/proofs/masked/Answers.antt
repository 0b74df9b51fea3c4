use Rattle.locks.proofs.Search.{some_passes}
use Rattle.std.proofs.Common.{rules, tests, refl, sym, ◌∙◌, ◌&&◌}
use Rattle.rules.specs.Locks.{in_set, covers, masked}
use Rattle.table.specs.Answers.{shown}
use Rattle.table.proofs.Shown.{locks_shown}
use Rattle.locks.proofs.masked.Goals as goal

pub returns : goal.returns
unfolding masked
returns c =
    let a = c.args in
    some_passes (λ k. in_set k a.set && covers (shown a.t.now) k a.x) _ _ _ _ c.any.result c.any.ensures.ran refl (c.from.ensures ∙ sym (locks_shown a.t.now))
    (λ x b q k. search (rules, tests))

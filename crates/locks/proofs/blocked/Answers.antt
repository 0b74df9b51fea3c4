use Rattle.locks.proofs.Search.{some_passes}
use Rattle.std.proofs.Common.{rules, tests, refl, sym, ◌∙◌, ◌&&◌, eqb}
use Rattle.rules.specs.Table.{blocking}
use Rattle.rules.specs.Locks.{in_set, blocked}
use Rattle.table.specs.Answers.{shown}
use Rattle.table.proofs.Shown.{locks_shown}
use Rattle.locks.proofs.blocked.Goals as goal

pub returns : goal.returns
unfolding blocked
returns c =
    let a = c.args in
    some_passes (λ k. in_set k a.a && in_set k a.b && eqb ((shown a.t.now).lock_kind k) blocking) _ _ _ _ c.any.result c.any.ensures.ran refl (c.from.ensures ∙ sym (locks_shown a.t.now))
    (λ x b q k. search (rules, tests))

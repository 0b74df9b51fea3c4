use Rattle.chinebright.proofs.LentStates.{wrong_length, no_table}
use Rattle.chinebright.proofs.Codes.{refusal_left}
use Rattle.table.proofs.Told.{told_table, told_fault}
use Rattle.table.specs.Answers.{number, numbered}
use Rattle.rules.proofs.Places.{refusal_within}
use native.Mathlib.Omega.{arith}
use Rattle.chinebright.proofs.stepping.malformed.Goals as goal

pub refused-requires : goal.refused-requires
refused-requires c = omega (arith, refusal_within c.args.table.now _ _ (told_fault _ _ c.in-Err.ensures.table))

pub returns-in-Err : goal.returns-in-Err
returns-in-Err c =
    let a = c.args in
    refusal_left _ a.state.now _ _ _ (no_table a.table.now a.state.now _ _ _ (told_fault _ _ c.in-Err.ensures.table)) c.refused.ensures

pub returns-in-Ok : goal.returns-in-Ok
unfolding number numbered
returns-in-Ok c =
    let a = c.args in
    refusal_left _ a.state.now 14 0 _ (wrong_length a.table.now a.state.now _ _ (told_table _ _ c.in-Ok.ensures.table) c.requires)
    (rw c.at.ensures at c.refused-in-Ok.ensures)

use native.Mathlib.Omega.{arith}
use Rattle.rules.specs.Calls.{read_call, reading}
use Rattle.rules.proofs.Places.{refusal_within}
use Rattle.table.proofs.Told.{told_table, told_fault}
use Rattle.chinebright.specs.Coded.{coded}
use Rattle.chinebright.proofs.chinebright_read.Goals as goal

pub refused-requires : goal.refused-requires
refused-requires c = omega (arith, refusal_within c.args.table.now _ _ (told_fault _ _ c.in-Err.ensures.table))

pub returns-in-Ok : goal.returns-in-Ok
unfolding read_call reading coded
returns-in-Ok c = rw (told_table _ _ c.in-Ok.ensures.table)

pub returns-in-Err : goal.returns-in-Err
unfolding read_call reading coded
returns-in-Err c = rw (told_fault _ _ c.in-Err.ensures.table) c.refused.ensures

use native.Mathlib.Omega.{arith}
use Rattle.rules.proofs.AnswersFit.{illegal_fits}
use Rattle.chinebright.proofs.Codes.{left_coded, left_small}
use Rattle.chinebright.proofs.chinebright_illegal.Goals as goal

pub coded-requires : goal.coded-requires
coded-requires c = left_small _ _ _ c.illegal.ensures 32768 (omega arith) (illegal_fits c.args.table.now c.args.out.now)

pub returns : goal.returns
returns c = left_coded _ _ _ c.illegal.ensures _ c.coded.ensures

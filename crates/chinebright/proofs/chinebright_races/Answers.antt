use native.Mathlib.Omega.{arith}
use Rattle.rules.proofs.AnswersFit.{races_fits}
use Rattle.chinebright.proofs.Codes.{left_coded, left_small}
use Rattle.chinebright.proofs.chinebright_races.Goals as goal

pub coded-requires : goal.coded-requires
coded-requires c = left_small _ _ _ c.races.ensures 32768 (omega arith) (races_fits c.args.table.now c.args.out.now)

pub returns : goal.returns
returns c = left_coded _ _ _ c.races.ensures _ c.coded.ensures

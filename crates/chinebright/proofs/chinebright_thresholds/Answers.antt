use native.Mathlib.Omega.{arith}
use Rattle.rules.proofs.AnswersFit.{thresholds_fits}
use Rattle.chinebright.proofs.Codes.{left_coded, left_small}
use Rattle.chinebright.proofs.chinebright_thresholds.Goals as goal

pub coded-requires : goal.coded-requires
coded-requires c = left_small _ _ _ c.thresholds.ensures 1253 (omega arith) (thresholds_fits c.args.table.now c.args.out.now)

pub returns : goal.returns
returns c = left_coded _ _ _ c.thresholds.ensures _ c.coded.ensures

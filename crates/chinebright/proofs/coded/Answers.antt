use Rattle.chinebright.specs.Coded.{coded, said}
use Rattle.chinebright.proofs.coded.Goals as goal

pub returns-in-Ok : goal.returns-in-Ok
unfolding coded said
returns-in-Ok c = rw c.in-Ok.is

pub returns-in-Err : goal.returns-in-Err
unfolding coded said
returns-in-Err c = rw c.in-Err.is c.refused.ensures

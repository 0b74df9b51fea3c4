use native.Mathlib.Omega.{arith}
use Rattle.table.proofs.Faults.{number_small}
use Rattle.chinebright.proofs.refused.Goals as goal

pub overflow_mul-result : goal.overflow_mul-result
overflow_mul-result c = omega (arith, number_small c.args.fault)

pub overflow_add-result : goal.overflow_add-result
overflow_add-result c = omega (arith, number_small c.args.fault)

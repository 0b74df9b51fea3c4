use Rattle.rows.proofs.BitList.{no_bits, lowest_bit}
use Rattle.rows.proofs.set_bits.SetBitsIterator.next.Goals as goal
use Rattle.std.proofs.Common.{rules}
use native.Mathlib.Omega.{arith}
use mathlib.Core.Path.{ap}
use lib.ListN.{length}

pub returns-then-self-eq0-clause-steps : goal.returns-then-self-eq0-clause-steps
returns-then-self-eq0-clause-steps c = let e = no_bits c.args.self.now.left c.if-self-eq0.true in (e, e)

pub returns-clause-steps : goal.returns-clause-steps
returns-clause-steps c = lowest_bit c.args.self.now.left (omega arith) c.if-self-eq0.false

pub returns-clause-goes : goal.returns-clause-goes
returns-clause-goes c =
    let e = ap length (lowest_bit c.args.self.now.left (omega arith) c.if-self-eq0.false) in
    record { on = λ _. (search rules, search rules, omega (arith, e)); keeps = search rules; rests = search rules }

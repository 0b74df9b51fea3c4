-- The tails are those of this table and section, and 4,096 bytes are room for the lines of an access.
use native.Mathlib.Omega.{arith}
use Rattle.lines.proofs.Pairs.put_some.Goals as goal

pub put_lines-requires : goal.put_lines-requires
put_lines-requires c = (omega (arith, c.requires.0), omega arith)

pub returns : goal.returns
returns c =
    (c.put_lines.ensures.0, omega (arith, c.put_lines.ensures.1))

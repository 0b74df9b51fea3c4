-- The digits of the tens, and then the last: `decimal` unfolds once. The number falls at each call.
use Rattle.text.proofs.Pen.+number.Given as goal

abbrev pub decreases-number : goal.decreases-number
decreases-number l = l.n

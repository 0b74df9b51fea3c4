use native.Mathlib.Omega.{arith}
use Rattle.rules.proofs.AnswersFit.{listing_fits}
use Rattle.chinebright.proofs.Codes.{left_coded, left_small}
use Rattle.chinebright.proofs.chinebright_listing.Goals as goal

pub coded-requires : goal.coded-requires
coded-requires c = left_small _ _ _ c.listing.ensures 520218 (omega arith) (listing_fits c.args.table.now c.args.out.now (λ p. (c.type_inv.table p).fits))

pub returns : goal.returns
returns c = left_coded _ _ _ c.listing.ensures _ c.coded.ensures

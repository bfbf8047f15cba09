use Rattle.ra_token.proofs.Masks.{others_bit}
use Rattle.ra_token.proofs.scan.others.Goals as goal

pub returns : goal.returns
returns c k below = others_bit c.args.bytes.now c.args.from k c.requires (λ i. (c.type_inv.bytes i).fits) below

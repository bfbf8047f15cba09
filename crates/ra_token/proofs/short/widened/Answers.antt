use Rattle.std.proofs.Common.{◌∙◌, arith}
use Rattle.std.proofs.lemmas.List.{length-map, get_or-map}
use Rattle.ra_token.proofs.short.widened.Goals as goal

pub returns : goal.returns
returns c = record {
  many = length-map c.args.lanes _ ∙ c.fits-lanes.0;
  each = λ k l. get_or-map _ c.args.lanes k 0 0 (omega (arith, c.fits-lanes.0));
}

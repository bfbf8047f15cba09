use Rattle.std.proofs.Common.{◌∙◌, sym, eqb-true, arith}
use Rattle.ra_weigh.proofs.MoveLemmas.{from_read, to_read}
use Rattle.ra_weigh.proofs.exchanges.is_exchange.Goals as goal

pub returns : goal.returns
returns c = grind (arith, from_read, to_read, eqb-true)

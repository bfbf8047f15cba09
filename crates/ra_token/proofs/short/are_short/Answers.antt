use Rattle.std.proofs.Common.{rules}
use Rattle.ra_token.proofs.BlockBits.{short}
use Rattle.ra_token.proofs.short.are_short.Goals as goal

pub returns : goal.returns
returns c = λ none. short c.args.bits c.ranges.bits.fits (search rules)

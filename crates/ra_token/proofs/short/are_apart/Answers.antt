use Rattle.std.proofs.Common.{rules}
use Rattle.ra_token.proofs.BlockBits.{apart}
use Rattle.ra_token.proofs.short.are_apart.Goals as goal

pub returns-then-bits-eq0 : goal.returns-then-bits-eq0
returns-then-bits-eq0 c = λ none. apart c.args.bits (search rules) (search rules)

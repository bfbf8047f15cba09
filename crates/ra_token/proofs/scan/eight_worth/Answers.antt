use Rattle.std.proofs.Common.{ap, ◌∙◌, arith}
use Rattle.ra_token.proofs.Eight.{joined, moved, joins}
use Rattle.ra_token.proofs.scan.eight_worth.Goals as goal

pub returns : goal.returns
returns c =
    ap (λ eight. joined (moved eight c.args.count)) (c.from_le_bytes-eight.ensures ∙ omega arith)
    ∙ joins c.args.bytes.now c.args.from c.args.count c.requires.some c.requires.few c.requires.digits

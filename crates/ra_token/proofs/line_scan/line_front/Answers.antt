use Rattle.std.proofs.Common.{rules}
use Rattle.ra_token.proofs.ReadingLaws.{ended_front, unended_front}
use Rattle.ra_token.proofs.line_scan.line_front.Goals as goal

pub returns-then-body-front-clause-ended : goal.returns-then-body-front-clause-ended
returns-then-body-front-clause-ended c = λ yes. ended_front c.args.bytes.now _ c.body_length-body.result (search rules)
    c.body_length-body.ensures.body (search rules)

pub returns-clause-unended : goal.returns-clause-unended
returns-clause-unended c =
    λ none. unended_front c.args.bytes.now _ c.body_length-body.result (search rules) c.body_length-body.ensures.body

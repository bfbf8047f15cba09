use Rattle.std.proofs.Common.{rules}
use Rattle.std.proofs.lemmas.List.{take_rest}
use Rattle.ra_report.proofs.FrontLaws.{behind_next, behind_none}
use Rattle.ra_report.proofs.front.behind_number.Goals as goal

pub returns-then-end-bytes-clause-behind : goal.returns-then-end-bytes-clause-behind
returns-then-end-bytes-clause-behind c =
    λ n rest e. behind_next c.args.bytes.now rest c.args.from c.digits_length.result n e
    (rw take_rest at c.digits_length.ensures.past)

pub returns-else-end-bytes-clause-behind : goal.returns-else-end-bytes-clause-behind
returns-else-end-bytes-clause-behind c =
    λ n rest e. absurd (behind_none c.args.bytes.now rest c.args.from c.digits_length.result n (search rules) e
    (rw take_rest at c.digits_length.ensures.past))

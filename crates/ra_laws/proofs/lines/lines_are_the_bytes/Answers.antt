use Rattle.ra_token.proofs.SplitLaws.{joined_back, lines_append}
use Rattle.ra_laws.proofs.lines.lines_are_the_bytes.Goals as goal

pub returns-clause-bytes : goal.returns-clause-bytes
returns-clause-bytes c = joined_back

pub returns-clause-both : goal.returns-clause-both
returns-clause-both c = lines_append

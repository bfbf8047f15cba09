use Rattle.std.proofs.Common.{refl, ap, take}
use Rattle.ra_token.proofs.TokenLaws.{before_none}
use Rattle.ra_token.proofs.Steps.{reads_start}
use Rattle.ra_token.proofs.reader.Tokens.make.Goals as goal

pub returns-clause-reads : goal.returns-clause-reads
returns-clause-reads c = λ told. reads_start told _ refl (ap (λ n. take n c.in-Ok.buffer.bytes.items) c.in-Ok.ensures)

pub returns-clause-start : goal.returns-clause-start
returns-clause-start c = before_none

use Rattle.ra_journal.proofs.NextLemmas.{next_legal}
use Rattle.ra_laws.proofs.journal.next_keeps_legal.Goals as goal

pub returns : goal.returns
returns c = next_legal

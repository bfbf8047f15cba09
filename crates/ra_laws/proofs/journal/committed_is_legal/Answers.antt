use Rattle.ra_journal.proofs.CommitLemmas.{committed_legal}
use Rattle.ra_laws.proofs.journal.committed_is_legal.Goals as goal

pub returns : goal.returns
returns c = committed_legal

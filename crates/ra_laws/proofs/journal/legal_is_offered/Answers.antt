use Rattle.ra_journal.proofs.StandingLemmas.{legal_offered}
use Rattle.ra_laws.proofs.journal.legal_is_offered.Goals as goal

pub returns : goal.returns
returns c = legal_offered

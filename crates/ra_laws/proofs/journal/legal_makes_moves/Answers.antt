use Rattle.ra_journal.proofs.StandingLemmas.{legal_moves}
use Rattle.ra_laws.proofs.journal.legal_makes_moves.Goals as goal

pub returns : goal.returns
returns c = legal_moves

use Rattle.ra_journal.proofs.SoloLemmas.{one_lot}
use Rattle.ra_laws.proofs.journal.one_lots_journal.Goals as goal

pub returns : goal.returns
returns c = one_lot

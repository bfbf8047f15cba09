use Rattle.ra_assign.proofs.ClosedLemmas.{closed_accepts}
use Rattle.ra_laws.proofs.reading.closed_files_are_read.Goals as goal

pub returns : goal.returns
returns c = closed_accepts

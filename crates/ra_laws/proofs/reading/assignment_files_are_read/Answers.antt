use Rattle.ra_assign.proofs.AssignLemmas.{assign_accepts}
use Rattle.ra_laws.proofs.reading.assignment_files_are_read.Goals as goal

pub returns : goal.returns
returns c = assign_accepts

use Rattle.ra_edit_read.proofs.FileLaws.{edits_accept}
use Rattle.ra_laws.proofs.reading.edits_files_are_read.Goals as goal

pub returns : goal.returns
returns c = edits_accept

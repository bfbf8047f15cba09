use Rattle.ra_jobs.specs.Editing.{editing}
use Rattle.ra_jobs.proofs.DoesLemmas.{does_for}
use Rattle.ra_jobs.proofs.edit.edit_run.Goals as goal

pub returns : goal.returns
returns g c = does_for editing _ _ _ _ _ _ c.of_edit-names.ensures.names c.edit_job.ensures

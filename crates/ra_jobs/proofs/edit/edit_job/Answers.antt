-- The end of the command, and what follows from it.
use Rattle.ra_jobs.proofs.ResultLemmas.{if_err_then}
use Rattle.ra_jobs.proofs.EditLemmas.{can_tell_edits, edit_so}
use Rattle.ra_jobs.proofs.edit.edit_job.Goals as goal

pub finish-requires : goal.finish-requires
finish-requires g c = if_err_then c.edit-ended.result _ _ (can_tell_edits _ _ _ _ _) c.edit-ended.ensures.refused

pub returns : goal.returns
returns g c = edit_so _ c.requires.last _ _ _ c.edit-ended.result c.finish.result
    c.edit-ended.ensures c.finish.ensures

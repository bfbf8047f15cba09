-- The end of the command, and what follows from it.
use Rattle.ra_jobs.proofs.DoesLemmas.{bound_so}
use Rattle.ra_jobs.proofs.ResultLemmas.{if_err_then}
use Rattle.ra_jobs.proofs.StageLemmas.{can_tell_written}
use Rattle.ra_jobs.proofs.bound.bound_job.Goals as goal

pub finish-requires : goal.finish-requires
finish-requires g c =
    if_err_then c.print_bound-ended.result _ _ (can_tell_written _ _ _ _ _) c.print_bound-ended.ensures.refused

pub returns : goal.returns
returns g c = bound_so _ c.requires.last _ _ _ c.print_bound-ended.result c.finish.result
    c.print_bound-ended.ensures c.finish.ensures

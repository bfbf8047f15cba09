-- The end of the command, and what follows from it.
use Rattle.ra_jobs.proofs.DoesLemmas.{check_so}
use Rattle.ra_jobs.proofs.ResultLemmas.{if_err_then}
use Rattle.ra_jobs.proofs.StageLemmas.{can_tell_judged}
use Rattle.ra_jobs.proofs.check.check_job.Goals as goal

pub finish-requires : goal.finish-requires
finish-requires g c = if_err_then c.check-ended.result _ _ (can_tell_judged _ _ _ _ _) c.check-ended.ensures.refused

pub returns : goal.returns
returns g c = check_so _ _ _ _ c.check-ended.result c.finish.result
    c.check-ended.ensures c.finish.ensures

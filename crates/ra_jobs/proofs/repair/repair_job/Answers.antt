-- The end of the command, and what follows from it.
use Rattle.ra_io.specs.Outside.{writing, Took}
use Rattle.ra_jobs.specs.Files.{names_of}
use Rattle.ra_jobs.specs.Output.{BrokeOff}
use Rattle.ra_jobs.specs.Repairing.{repaired}
use Rattle.ra_jobs.proofs.RepairLemmas.{own_tells, repair_so}
use Rattle.ra_jobs.proofs.ResultLemmas.{if_err_then}
use Rattle.ra_jobs.proofs.StageLemmas.{can_tell}
use Rattle.ra_jobs.proofs.repair.repair_job.Goals as goal

pub finish-requires : goal.finish-requires
finish-requires g c =
    let held = g.F.Files.held c.args.outside.files.now in
    let names = names_of c.args.names.now in
    let out = writing g.O.Sink c.args.outside.out.now c.mend-ended.new.out in
    let own = (repaired names _).refuses held (Took out) (BrokeOff out) in
    if_err_then c.mend-ended.result _ _
    (can_tell held names _ _ own
    (λ r reason. own_tells held names reason.0 (Took out) _ c.requires.initial r reason.2))
    c.mend-ended.ensures.refused

pub returns : goal.returns
returns g c = repair_so _ c.args.lots.now c.requires.initial c.requires.last _ _ _ c.mend-ended.result c.finish.result
    c.mend-ended.ensures c.finish.ensures

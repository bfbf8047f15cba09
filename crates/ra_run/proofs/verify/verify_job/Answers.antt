-- The end of the command, and what follows from it.
use Rattle.ra_io.specs.Outside.{reading, writing, Took}
use Rattle.ra_jobs.specs.Commands.{These}
use Rattle.ra_jobs.specs.Files.{names_of}
use Rattle.ra_jobs.specs.Output.{output, BrokeOff}
use Rattle.ra_jobs.proofs.ResultLemmas.{if_err_then}
use Rattle.ra_jobs.proofs.StageLemmas.{can_tell}
use Rattle.ra_run.specs.Verifying.{VerifyPrinted, verifying}
use Rattle.ra_run.proofs.VerifyLemmas.{own_tells, verify_so}
use Rattle.ra_run.proofs.verify.verify_job.Goals as goal

pub finish-requires : goal.finish-requires
finish-requires g c =
    let held = g.F.Files.held c.args.outside.files.now in
    let names = names_of c.args.names.now in
    let out = writing g.O.Sink c.args.outside.out.now c.accept-ended.new.out in
    let own = (verifying names (These c.args.lots.now)).refuses held (Took out) (BrokeOff out) in
    if_err_then c.accept-ended.result _ _
    (can_tell held names _ _ own
    (λ r reason. own_tells held names reason.0 (VerifyPrinted held names reason.0 (BrokeOff out)) r reason.2))
    c.accept-ended.ensures.refused

pub returns : goal.returns
returns g c = verify_so (names_of c.args.names.now) c.args.lots.now c.requires.initial c.requires.report
    (reading g.F.Files c.args.outside.files.now c.accept-ended.new.files)
    (output g.O.Sink c.args.outside.out.now c.accept-ended.new.out)
    (output g.E.Sink c.args.outside.err.now c.finish.new.err) c.accept-ended.result c.finish.result
    c.accept-ended.ensures c.finish.ensures

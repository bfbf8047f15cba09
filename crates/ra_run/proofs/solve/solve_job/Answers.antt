-- The end of the command, and what follows from it.
use Rattle.ra_io.specs.Outside.{reading}
use Rattle.ra_jobs.specs.Files.{names_of}
use Rattle.ra_jobs.specs.Output.{output}
use Rattle.ra_jobs.specs.Commands.{These}
use Rattle.ra_jobs.proofs.ResultLemmas.{if_err_then}
use Rattle.ra_jobs.proofs.StageLemmas.{can_tell_judged}
use Rattle.ra_run.proofs.SolveLemmas.{solve_so}
use Rattle.ra_run.proofs.solve.solve_job.Goals as goal

pub finish-requires : goal.finish-requires
finish-requires g c = if_err_then c.solve-ended.result _ _ (can_tell_judged _ _ _ _ _) c.solve-ended.ensures.refused

pub returns : goal.returns
returns g c = solve_so (names_of c.args.names.now) (These c.args.lots.now) (reading g.F.Files c.args.outside.files.now c.solve-ended.new.files)
    (output g.O.Sink c.args.outside.out.now c.solve-ended.new.out)
    (output g.E.Sink c.args.outside.err.now c.finish.new.err) c.solve-ended.result c.finish.result
    c.solve-ended.ensures c.finish.ensures

-- The end of the command, and what follows from it.
use Rattle.ra_io.specs.Outside.{reading}
use Rattle.ra_jobs.specs.Files.{names_of}
use Rattle.ra_jobs.specs.Output.{output}
use Rattle.ra_jobs.proofs.ResultLemmas.{if_err_then}
use Rattle.ra_jobs.proofs.StageLemmas.{can_tell_judged}
use Rattle.ra_anneal.proofs.AnnealLemmas.{anneal_so}
use Rattle.ra_anneal.proofs.annealing.anneal_job.Goals as goal

pub finish-requires : goal.finish-requires
finish-requires g c =
    if_err_then c.anneal-ended.result _ _ (can_tell_judged _ _ _ _ _) c.anneal-ended.ensures.refused

pub returns : goal.returns
returns g c = anneal_so (names_of c.args.names.now) (reading g.F.Files c.args.outside.files.now c.anneal-ended.new.files)
    (output g.O.Sink c.args.outside.out.now c.anneal-ended.new.out)
    (output g.E.Sink c.args.outside.err.now c.finish.new.err) c.anneal-ended.result c.finish.result
    c.anneal-ended.ensures c.finish.ensures

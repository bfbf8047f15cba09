-- What the run says, in the words of the files.
use Rattle.std.proofs.Common.{refl, arith}
use Rattle.ra_io.specs.Outside.{reading, writing, Took}
use Rattle.ra_jobs.specs.Commands.{These, over}
use Rattle.ra_jobs.specs.Files.{names_of}
use Rattle.ra_jobs.specs.Output.{output, BrokeOff}
use Rattle.ra_jobs.proofs.ComesLemmas.{alone_at}
use Rattle.ra_jobs.proofs.DoesLemmas.{not_tried}
use Rattle.ra_jobs.proofs.EndLemmas.{not_write}
use Rattle.ra_jobs.proofs.ResultLemmas.{on_ok_then, if_err_then}
use Rattle.ra_jobs.proofs.StageLemmas.{reason_anywhere}
use Rattle.ra_run.specs.Headline.{solving}
use Rattle.ra_run.proofs.SolveLemmas.{solved, reason_run, reason_these}
use Rattle.ra_run.proofs.solve.solve.Goals as goal

pub returns : goal.returns
returns g c =
    let held = g.F.Files.held c.args.files.now in
    let before = g.F.Files.faults c.args.files.now in
    let now = g.F.Files.faults c.read_start.new.files in
    let names = names_of c.args.names.now in
    let lots = c.args.lots.now in
    let out = writing g.O.Sink c.args.out.now c.run_from-ended.new.out in
    let inst = c.in_ok-start.start.inst in
    let a0 = c.in_ok-start.start.initial.items in
    record {
      printed = on_ok_then c.run_from-ended.result _ _
          (λ told. (
            lots,
            refl,
            solved held names _ (Took out) inst.well_formed
                c.in_ok-start.ensures.read told,
          )) c.run_from-ended.ensures.printed;
      refused = if_err_then c.run_from-ended.result _ _
          (λ r reason. reason_these held names lots before now (BrokeOff out) r
          (reason_run held names _ before now (BrokeOff out) c.requires.initial inst.well_formed
          c.in_ok-start.ensures.read r reason)) c.run_from-ended.ensures.refused;
      no_output = if_err_then c.run_from-ended.result _ _ (λ r same first. same (not_write r first))
          c.run_from-ended.ensures.no_output;
      leaves = c.read_start.ensures.leaves;
      never_falls = c.run_from-ended.ensures.out_never_falls;
    }

pub returns-in_err-start : goal.returns-in_err-start
returns-in_err-start g c =
    let held = g.F.Files.held c.args.files.now in
    let names = names_of c.args.names.now in
    let out = output g.O.Sink c.args.out.now c.args.out.now in
    not_tried (over (solving names (These c.args.lots.now))) (reading g.F.Files c.args.files.now c.read_start.new.files) out _ _ c.from_residual.ensures
    (reason_anywhere held names (g.F.Files.faults c.args.files.now) (g.F.Files.faults c.read_start.new.files)
    ((solving names (These c.args.lots.now)).refuses held (Took out.sink) (BrokeOff out.sink)) _
    c.in_err-start.ensures.refused)
    refl c.read_start.ensures.leaves (omega arith)

pub read_start-requires-clause-alone : goal.read_start-requires-clause-alone
read_start-requires-clause-alone g c = alone_at (names_of c.args.names.now) c.requires.last

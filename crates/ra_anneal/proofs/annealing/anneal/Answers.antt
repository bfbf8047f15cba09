-- What the search says, in the words of the files.
use Rattle.std.proofs.Common.{refl, arith}
use Rattle.ra_io.specs.Outside.{reading, writing, Took}
use Rattle.ra_jobs.specs.Commands.{over}
use Rattle.ra_jobs.specs.Files.{names_of}
use Rattle.ra_jobs.specs.Output.{output, BrokeOff}
use Rattle.ra_jobs.proofs.DoesLemmas.{not_tried}
use Rattle.ra_jobs.proofs.EndLemmas.{not_write}
use Rattle.ra_jobs.proofs.ResultLemmas.{on_ok_then, if_err_then}
use Rattle.ra_jobs.proofs.StageLemmas.{reason_anywhere}
use Rattle.ra_anneal.specs.Headline.{annealing}
use Rattle.ra_anneal.proofs.AnnealLemmas.{annealed, reason_given}
use Rattle.ra_anneal.proofs.annealing.anneal.Goals as goal

pub returns : goal.returns
returns g c =
    let held = g.F.Files.held c.args.files.now in
    let before = g.F.Files.faults c.args.files.now in
    let now = g.F.Files.faults c.read_given.new.files in
    let names = names_of c.args.names.now in
    let out = writing g.O.Sink c.args.out.now c.anneal_from-ended.new.out in
    let given = c.in_ok-given.given in
    record {
      printed = on_ok_then c.anneal_from-ended.result _ _
          (annealed held names given c.in_ok-given.ensures.read (Took out) given.inst.well_formed)
          c.anneal_from-ended.ensures.printed;
      refused = if_err_then c.anneal_from-ended.result _ _
          (reason_given held names given c.in_ok-given.ensures.read before now (BrokeOff out) c.requires.initial
          given.inst.well_formed) c.anneal_from-ended.ensures.refused;
      no_output = if_err_then c.anneal_from-ended.result _ _ (λ r same first. same (not_write r first))
          c.anneal_from-ended.ensures.no_output;
      leaves = c.read_given.ensures.leaves;
      never_falls = c.anneal_from-ended.ensures.out_never_falls;
    }

pub returns-in_err-given : goal.returns-in_err-given
returns-in_err-given g c =
    let held = g.F.Files.held c.args.files.now in
    let names = names_of c.args.names.now in
    let out = output g.O.Sink c.args.out.now c.args.out.now in
    not_tried (over (annealing names)) (reading g.F.Files c.args.files.now c.read_given.new.files) out _ _
    c.from_residual.ensures
    (reason_anywhere held names (g.F.Files.faults c.args.files.now) (g.F.Files.faults c.read_given.new.files)
    ((annealing names).refuses held (Took out.sink) (BrokeOff out.sink)) _ c.in_err-given.ensures.refused)
    refl c.read_given.ensures.leaves (omega arith)

-- What the tries say, in the words of the files.
use Rattle.std.proofs.Common.{None, refl, arith}
use Rattle.ra_io.specs.Outside.{writing, Took}
use Rattle.ra_jobs.specs.Commands.{over}
use Rattle.ra_jobs.specs.Files.{names_of}
use Rattle.ra_jobs.specs.Output.{output, BrokeOff}
use Rattle.ra_jobs.specs.Repairing.{RepairOwn, repaired}
use Rattle.ra_jobs.proofs.ComesLemmas.{alone_at}
use Rattle.ra_jobs.proofs.DoesLemmas.{not_tried}
use Rattle.ra_jobs.proofs.RepairLemmas.{one_lot, lot_alone, tried_all, reason_try}
use Rattle.ra_jobs.proofs.ResultLemmas.{on_ok_then, if_err_then}
use Rattle.ra_jobs.proofs.StageLemmas.{reason_anywhere, reason_more}
use Rattle.ra_jobs.proofs.repair.mend.Goals as goal

pub try_from-ended-requires-clause-lot : goal.try_from-ended-requires-clause-lot
try_from-ended-requires-clause-lot g c = lot_alone c.args.lots.now c.lot.result.now c.requires.one c.lot.ensures

pub returns : goal.returns
returns g c =
    let held = g.F.Files.held c.args.files.now in
    let before = g.F.Files.faults c.args.files.now in
    let now = g.F.Files.faults c.read_start.new.files in
    let names = names_of c.args.names.now in
    let out = writing g.O.Sink c.args.out.now c.try_from-ended.new.out in
    let lots = c.args.lots.now in
    let i = c.in_ok-start.start.inst.tables in
    let a0 = c.in_ok-start.start.initial.items in
    let one = one_lot lots c.lot.result.now c.requires.one c.lot.ensures in
    let start = c.in_ok-start.ensures.read in
    record {
      printed = on_ok_then c.try_from-ended.result _ _
          (λ tried. (lots, refl, tried_all held names lots i a0 c.lot.result.now None (Took out) start one tried))
          c.try_from-ended.ensures.printed;
      refused = if_err_then c.try_from-ended.result _ _
          (λ r reason. reason_more held names before now (RepairOwn held names lots (Took out) _)
          ((repaired names _).refuses held (Took out) (BrokeOff out))
          (λ refusal own. (lots, refl, own)) r
          (reason_try held names lots i a0 c.lot.result.now before now (Took out) _ start one r reason))
          c.try_from-ended.ensures.refused;
      no_output = c.try_from-ended.ensures.no_output;
      leaves = c.read_start.ensures.leaves;
      never_falls = c.try_from-ended.ensures.out_never_falls;
    }

pub returns-in_err-start : goal.returns-in_err-start
returns-in_err-start g c =
    let held = g.F.Files.held c.args.files.now in
    let names = names_of c.args.names.now in
    let out = output g.O.Sink c.args.out.now c.args.out.now in
    not_tried (over _) _ out _ _ c.from_residual.ensures
    (reason_anywhere held names (g.F.Files.faults c.args.files.now) (g.F.Files.faults c.read_start.new.files)
    ((repaired names _).refuses held (Took out.sink) (BrokeOff out.sink)) _
    c.in_err-start.ensures.refused)
    refl c.read_start.ensures.leaves (omega arith)

pub read_start-requires-clause-alone : goal.read_start-requires-clause-alone
read_start-requires-clause-alone g c = alone_at (names_of c.args.names.now) c.requires.last

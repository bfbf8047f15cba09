use Rattle.std.proofs.Common.{refl, arith}
use Rattle.ra_io.specs.Outside.{reading}
use Rattle.ra_jobs.specs.Commands.{These, over}
use Rattle.ra_jobs.specs.Files.{names_of}
use Rattle.ra_jobs.specs.Output.{output, BrokeOff}
use Rattle.ra_jobs.proofs.DoesLemmas.{not_tried, not_written_whole}
use Rattle.ra_run.specs.Verifying.{VerifyPrinted, verifying}
use Rattle.ra_run.proofs.VerifyLemmas.{reason_these_lots, reason_unwritten_verdict}
use Rattle.ra_run.proofs.verify.accept.Goals as goal

pub returns : goal.returns
returns g c = record {
  printed = (
    c.args.lots.now,
    refl,
    record {
      entries = c.in_ok-entries.entries;
      read = c.in_ok-entries.ensures.read;
      text = c.in_ok-write_accepted.ensures.whole;
    },
  );
  refused = tt;
  no_output = tt;
  leaves = c.read_report.ensures.leaves;
  never_falls = c.write_accepted.ensures.never_falls;
}

pub returns-in_err-write_accepted : goal.returns-in_err-write_accepted
returns-in_err-write_accepted g c =
    not_written_whole (over (verifying (names_of c.args.names.now) (These c.args.lots.now)))
    (reading g.F.Files c.args.files.now c.read_report.new.files)
    (output g.O.Sink c.args.out.now c.write_accepted.new.sink) _ c.from_residual-in_err-write_accepted.ensures (
      c.args.lots.now,
      refl,
      record {
        entries = c.in_ok-entries.entries;
        read = c.in_ok-entries.ensures.read;
        text = c.in_err-write_accepted.ensures.part;
      },
    )
    c.read_report.ensures.leaves c.write_accepted.ensures.never_falls

pub returns-in_err-entries : goal.returns-in_err-entries
returns-in_err-entries g c =
    let held = g.F.Files.held c.args.files.now in
    let names = names_of c.args.names.now in
    let lots = c.args.lots.now in
    let before = g.F.Files.faults c.args.files.now in
    let now = g.F.Files.faults c.read_report.new.files in
    let out = output g.O.Sink c.args.out.now c.args.out.now in
    not_tried (over (verifying names (These lots))) (reading g.F.Files c.args.files.now c.read_report.new.files) out _ _ c.from_residual.ensures
    (reason_these_lots held names lots before now (BrokeOff out.sink) _
    (reason_unwritten_verdict held names before now lots (VerifyPrinted held names lots (BrokeOff out.sink)) _
    c.in_err-entries.ensures.refused))
    refl c.read_report.ensures.leaves (omega arith)

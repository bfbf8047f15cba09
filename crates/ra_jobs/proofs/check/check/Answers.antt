use Rattle.std.proofs.Common.{refl, arith}
use Rattle.ra_io.specs.Outside.{reading, writing, Took}
use Rattle.ra_jobs.specs.Commands.{over}
use Rattle.ra_jobs.specs.Files.{names_of}
use Rattle.ra_jobs.specs.Output.{output, BrokeOff}
use Rattle.ra_jobs.specs.Outputs.{CheckPrinted, checked}
use Rattle.ra_jobs.proofs.DoesLemmas.{not_tried, not_written_whole}
use Rattle.ra_jobs.proofs.StageLemmas.{printed, reason_unwritten}
use Rattle.ra_jobs.proofs.check.check.Goals as goal

pub returns : goal.returns
returns g c = record {
  printed = printed (g.F.Files.held c.args.files.now) (names_of c.args.names.now) c.in_ok-parts.parts
      (Took (writing g.O.Sink c.args.out.now c.write_parts.new.sink)) c.in_ok-parts.ensures.passed
      c.in_ok-write_parts.ensures.whole;
  refused = tt;
  no_output = tt;
  leaves = c.read_parts.ensures.leaves;
  never_falls = c.write_parts.ensures.never_falls;
}

pub returns-in_err-write_parts : goal.returns-in_err-write_parts
returns-in_err-write_parts g c =
    let names = names_of c.args.names.now in
    let out = output g.O.Sink c.args.out.now c.write_parts.new.sink in
    not_written_whole (over (checked names)) (reading g.F.Files c.args.files.now c.read_parts.new.files) out _
    c.from_residual-in_err-write_parts.ensures
    (printed (g.F.Files.held c.args.files.now) names c.in_ok-parts.parts (BrokeOff out.sink)
    c.in_ok-parts.ensures.passed c.in_err-write_parts.ensures.part)
    c.read_parts.ensures.leaves c.write_parts.ensures.never_falls

pub returns-in_err-parts : goal.returns-in_err-parts
returns-in_err-parts g c =
    let held = g.F.Files.held c.args.files.now in
    let names = names_of c.args.names.now in
    let out = output g.O.Sink c.args.out.now c.args.out.now in
    not_tried (over (checked names)) (reading g.F.Files c.args.files.now c.read_parts.new.files) out _ _
    c.from_residual.ensures
    (reason_unwritten held names (g.F.Files.faults c.args.files.now) (g.F.Files.faults c.read_parts.new.files)
    (CheckPrinted held names (BrokeOff out.sink)) _ c.in_err-parts.ensures.refused)
    refl c.read_parts.ensures.leaves (omega arith)

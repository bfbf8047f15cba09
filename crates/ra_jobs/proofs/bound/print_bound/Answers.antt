-- The bound of the files went to the output, or a part of its text.
use Rattle.std.proofs.Common.{refl, arith}
use Rattle.ra_io.specs.Outside.{reading}
use Rattle.ra_jobs.specs.Commands.{over}
use Rattle.ra_jobs.specs.Files.{names_of}
use Rattle.ra_jobs.specs.Output.{output, BrokeOff}
use Rattle.ra_jobs.specs.Outputs.{BoundPrinted, bounded}
use Rattle.ra_jobs.specs.Refusals.{OnlyWrites}
use Rattle.ra_jobs.proofs.DoesLemmas.{not_tried, not_written_whole}
use Rattle.ra_jobs.proofs.StageLemmas.{reason_anywhere}
use Rattle.ra_jobs.proofs.bound.print_bound.Goals as goal

pub returns : goal.returns
returns g c = record {
  printed = record {
    bound = c.in_ok-bound.bound;
    read = c.in_ok-bound.ensures.read;
    text = c.in_ok-write_bound.ensures.whole;
  };
  refused = tt;
  no_output = tt;
  leaves = c.read_bound.ensures.leaves;
  never_falls = c.write_bound.ensures.never_falls;
}

pub returns-in_err-write_bound : goal.returns-in_err-write_bound
returns-in_err-write_bound g c =
    not_written_whole (over (bounded (names_of c.args.names.now)))
    (reading g.F.Files c.args.files.now c.read_bound.new.files)
    (output g.O.Sink c.args.out.now c.write_bound.new.sink) _ c.from_residual-in_err-write_bound.ensures
    (record {
      bound = c.in_ok-bound.bound;
      read = c.in_ok-bound.ensures.read;
      text = c.in_err-write_bound.ensures.part;
    })
    c.read_bound.ensures.leaves c.write_bound.ensures.never_falls

pub returns-in_err-bound : goal.returns-in_err-bound
returns-in_err-bound g c =
    let held = g.F.Files.held c.args.files.now in
    let names = names_of c.args.names.now in
    let out = output g.O.Sink c.args.out.now c.args.out.now in
    not_tried (over (bounded names)) (reading g.F.Files c.args.files.now c.read_bound.new.files) out _ _ c.from_residual.ensures
    (reason_anywhere held names (g.F.Files.faults c.args.files.now) (g.F.Files.faults c.read_bound.new.files)
    (OnlyWrites (BoundPrinted held names (BrokeOff out.sink))) _ c.in_err-bound.ensures.refused)
    refl c.read_bound.ensures.leaves (omega arith)

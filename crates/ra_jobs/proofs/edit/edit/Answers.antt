use Rattle.std.proofs.Common.{refl, arith}
use Rattle.ra_io.specs.Outside.{writing, Took}
use Rattle.ra_jobs.specs.Commands.{over}
use Rattle.ra_jobs.specs.Files.{names_of}
use Rattle.ra_jobs.specs.Output.{output}
use Rattle.ra_jobs.proofs.DoesLemmas.{not_tried}
use Rattle.ra_jobs.proofs.EndLemmas.{not_write}
use Rattle.ra_jobs.proofs.ResultLemmas.{on_ok_then, if_err_then}
use Rattle.ra_jobs.proofs.EditLemmas.{edited_all, reason_run, reason_untaken}
use Rattle.ra_jobs.proofs.edit.edit.Goals as goal

pub returns : goal.returns
returns g c =
    let held = g.F.Files.held c.args.files.now in
    let names = names_of c.args.names.now in
    let t = c.in_ok-taken.taken in
    let out = writing g.O.Sink c.args.out.now c.edit_from.new.out in
    record {
      printed = on_ok_then c.edit_from.result _ _
          (edited_all held names t.inst.tables t.lists.initial.items t.lists.changed.items t.edits
          (Took out) c.in_ok-taken.ensures.read) c.edit_from.ensures.printed;
      refused = if_err_then c.edit_from.result _ _
          (reason_run held names t.inst.tables t.lists.initial.items t.lists.changed.items t.edits
          (g.F.Files.faults c.args.files.now) (g.F.Files.faults c.read_taken.new.files) _
          c.requires.initial c.requires.changed c.in_ok-taken.ensures.read) c.edit_from.ensures.refused;
      no_output = if_err_then c.edit_from.result _ _ (λ r same first. same (not_write r first))
          c.edit_from.ensures.no_output;
      leaves = c.read_taken.ensures.leaves;
      never_falls = c.edit_from.ensures.out_never_falls;
    }

pub returns-in_err-taken : goal.returns-in_err-taken
returns-in_err-taken g c =
    let held = g.F.Files.held c.args.files.now in
    let names = names_of c.args.names.now in
    let out = output g.O.Sink c.args.out.now c.args.out.now in
    not_tried (over _) _ out _ _
    c.from_residual.ensures
    (reason_untaken held names (g.F.Files.faults c.args.files.now) (g.F.Files.faults c.read_taken.new.files)
    _ _ c.in_err-taken.ensures.refused)
    refl c.read_taken.ensures.leaves (omega arith)

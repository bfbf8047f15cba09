use Rattle.std.proofs.Common.{ap, ◌∙◌}
use Rattle.ra_jobs.specs.Files.{name_of, names_of}
use Rattle.ra_jobs.proofs.StageLemmas.{list_reason}
use Rattle.ra_jobs.proofs.lists.read_list.Goals as goal

pub name-name-requires : goal.name-name-requires
name-name-requires g c = rw c.file.ensures c.requires.named

pub returns-in-Ok-clause-read : goal.returns-in-Ok-clause-read
returns-in-Ok-clause-read g c =
    let names = names_of c.args.names.now in
    let named = c.as_str.ensures
    ∙ (c.name-name.ensures ∙ ap (name_of names) c.file.ensures) in (
      rw named at c.in-Ok.ensures.ok,
      c.in-Ok.ensures.fits,
    )

pub returns-in-Err-clause-refused : goal.returns-in-Err-clause-refused
returns-in-Err-clause-refused g c =
    let names = names_of c.args.names.now in
    let named = c.as_str.ensures
    ∙ (c.name-name.ensures ∙ ap (name_of names) c.file.ensures) in
    rw (c.list_refused.ensures, ← named)
    (list_reason c.args.role (g.F.Files.held c.args.files.now) c.as_str.result.now c.args.inst.now.tables
    (g.F.Files.faults c.args.files.now) (g.F.Files.faults c.read_assignment.new.files) c.in-Err.fault
    (λ e. c.in-Err.ensures.fault (rw e))
    c.in-Err.ensures.refused)

use Rattle.std.specs.Option.{option_copied}
use Rattle.std.proofs.Common.{Some, ap, sym, subst}
use Rattle.ra_jobs.specs.declared.refusals.File.TheVariants as file
use Rattle.ra_jobs.specs.Files.{Names, EndsAt}
use Rattle.ra_jobs.proofs.FileLemmas.{edit_ends}
use Rattle.ra_jobs.proofs.refusals.JobFiles.of_edit.Goals as goal

pub returns-clause-names : goal.returns-clause-names
returns-clause-names c =
    ap (λ (names : Names). record names { edits = Some c.args.edits.now }) c.of_check.ensures.names

pub returns-clause-last : goal.returns-clause-last
returns-clause-last c =
    let names = ap (λ (names : Names). record names { edits = Some c.args.edits.now }) c.of_check.ensures.names in
    subst (λ (names : Names). EndsAt names file.Edits) (sym names)
    (edit_ends c.args.model.now c.args.initial.now c.args.current.now c.args.edits.now (option_copied c.args.closed))

use Rattle.std.proofs.Common.{refl, sym, subst}
use Rattle.ra_jobs.specs.declared.refusals.File.TheVariants as file
use Rattle.ra_jobs.specs.Files.{Names, IsNamed}
use Rattle.ra_jobs.proofs.refusals.JobFiles.of_solve.Goals as goal

pub returns-clause-initial : goal.returns-clause-initial
returns-clause-initial c =
    subst (λ (names : Names). IsNamed names file.Initial) (sym c.of_bound.ensures.names) refl

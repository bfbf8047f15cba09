use Rattle.std.proofs.Common.{Some, ap}
use Rattle.ra_jobs.specs.Files.{Names}
use Rattle.ra_jobs.proofs.refusals.JobFiles.of_check.Goals as goal

pub returns-clause-names : goal.returns-clause-names
returns-clause-names c =
    ap (λ (names : Names). record names { changed = Some c.args.changed.now }) c.of_solve.ensures.names

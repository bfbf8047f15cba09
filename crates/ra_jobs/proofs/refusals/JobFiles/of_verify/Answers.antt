use Rattle.std.proofs.Common.{Some, ap}
use Rattle.ra_jobs.specs.Files.{Names, names_of}
use Rattle.ra_jobs.proofs.ComesLemmas.{alone_at}
use Rattle.ra_jobs.proofs.refusals.JobFiles.of_verify.Goals as goal

pub returns-clause-names : goal.returns-clause-names
returns-clause-names c =
    ap (λ (names : Names). record names { report = Some c.args.report.now }) c.of_solve.ensures.names

pub returns-clause-alone : goal.returns-clause-alone
returns-clause-alone c = alone_at (names_of c.of_solve.result) c.of_solve.ensures.last

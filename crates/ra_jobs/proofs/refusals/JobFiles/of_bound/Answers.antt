use Rattle.std.specs.Option.{option_copied}
use Rattle.ra_jobs.proofs.FileLemmas.{bound_ends}
use Rattle.ra_jobs.proofs.refusals.JobFiles.of_bound.Goals as goal

pub returns-clause-last : goal.returns-clause-last
returns-clause-last c =
    bound_ends c.args.model.now (option_copied c.args.initial) (option_copied c.args.closed)

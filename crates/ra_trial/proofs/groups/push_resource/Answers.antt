use Rattle.std.proofs.Common.{arith}
use Rattle.ra_trial.specs.Trials.{resource_line}
use Rattle.ra_trial.proofs.LineLemmas.{adds_as}
use Rattle.ra_trial.proofs.groups.push_resource.Goals as goal

pub returns : goal.returns
unfolding resource_line
returns c = adds_as (rw c.transient_flag.ensures) (omega arith)
    c.push_line.ensures

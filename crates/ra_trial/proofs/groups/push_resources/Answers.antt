use Rattle.std.proofs.Common.{arith}
use Rattle.ra_trial.specs.Trials.{resource_lines}
use Rattle.ra_trial.proofs.LineLemmas.{adds_count, adds_line, adds_group}
use Rattle.ra_trial.proofs.groups.push_resources.Goals as goal

pub loop-r-init : goal.loop-r-init
loop-r-init c = adds_count _ _ c.push_line.ensures

pub loop-r-preserved : goal.loop-r-preserved
loop-r-preserved c =
    adds_line _ _ c.loop-r.r (omega arith) c.loop-r.invariant c.push_resource.ensures

pub returns : goal.returns
unfolding resource_lines
returns c = adds_group _ _ (omega arith) (omega arith) c.loop-r.invariant

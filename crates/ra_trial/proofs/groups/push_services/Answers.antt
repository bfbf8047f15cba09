use Rattle.std.proofs.Common.{arith}
use Rattle.ra_trial.specs.Trials.{service_lines}
use Rattle.ra_trial.proofs.LineLemmas.{adds_count, adds_line, adds_group}
use Rattle.ra_trial.proofs.groups.push_services.Goals as goal

pub loop-s-init : goal.loop-s-init
loop-s-init c = adds_count _ _ c.push_line.ensures

pub loop-s-preserved : goal.loop-s-preserved
loop-s-preserved c =
    adds_line _ _ c.loop-s.s (omega arith) c.loop-s.invariant c.push_service.ensures

pub returns : goal.returns
unfolding service_lines
returns c = adds_group _ _ (omega arith) (omega arith) c.loop-s.invariant

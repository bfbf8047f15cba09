use Rattle.std.proofs.Common.{arith}
use Rattle.ra_trial.proofs.LineLemmas.{adds_as}
use Rattle.ra_trial.proofs.OneLine.{service_depends, service_alone}
use Rattle.ra_trial.proofs.groups.push_service.Goals as goal

pub returns-then-s-eq0 : goal.returns-then-s-eq0
returns-then-s-eq0 c =
    adds_as (service_depends _ _ (omega arith) c.spread-wants.ensures) (omega arith) c.push_line.ensures

pub returns-else-s-eq0 : goal.returns-else-s-eq0
returns-else-s-eq0 c = adds_as (service_alone _ _ c.if-s-eq0.false c.spread-wants.ensures) (omega arith)
    c.push_line-else-s-eq0.ensures

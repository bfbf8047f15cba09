use Rattle.std.proofs.Common.{arith}
use Rattle.ra_trial.proofs.LineLemmas.{adds_as}
use Rattle.ra_trial.proofs.OneLine.{process_gathered}
use Rattle.ra_trial.proofs.groups.push_process.Goals as goal

pub returns : goal.returns
returns c = adds_as
    (process_gathered _ _ c.requirement.ensures.value c.requirement-2.ensures.value
    c.requirement-3.ensures.value c.requirement-4.ensures.value c.process_cost.ensures) (omega arith)
    c.push_line.ensures

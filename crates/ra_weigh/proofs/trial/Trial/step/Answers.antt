-- The steps were read.
use Rattle.ra_moves.specs.Steps.{step_at}
use Rattle.ra_weigh.proofs.trial.Trial.step.Goals as goal

pub returns : goal.returns
unfolding step_at
returns c = c.args.self.now.read.each c.args.j c.requires

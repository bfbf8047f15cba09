-- The numbers are those that were read.
use Rattle.ra_base.specs.Tables.{cell}
use Rattle.ra_weigh.proofs.trial.Trial.required.Goals as goal

pub returns : goal.returns
unfolding cell
returns c = c.args.self.now.known.each c.args.j c.args.r.0 c.requires.step c.requires.resource

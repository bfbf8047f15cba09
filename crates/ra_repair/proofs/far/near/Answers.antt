-- What the counters say of the kept assignment.
use Rattle.std.proofs.Common.{◌∙◌}
use Rattle.ra_repair.proofs.far.near.Goals as goal

pub returns-clause-value : goal.returns-clause-value
returns-clause-value c = c.from.ensures ∙ c.in_neighbourhood.ensures.count _ _ _ c.requires.stands.cells

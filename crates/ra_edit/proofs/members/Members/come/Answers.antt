-- One more fits each count.
use Rattle.std.proofs.Common.{arith}
use Rattle.ra_edit.specs.declared.members.Spot.TheVariants.{OnMachine, InNeighbourhood, InLocation}
use Rattle.ra_edit.proofs.members.Members.come.Goals as goal

pub come-requires-clause-below : goal.come-requires-clause-below
come-requires-clause-below c = omega (arith, c.requires.few.each c.args.s.0 (OnMachine c.args.m))

pub come-requires-2-clause-below : goal.come-requires-2-clause-below
come-requires-2-clause-below c = omega (arith, c.requires.few.each c.args.s.0 (InNeighbourhood c.neighbourhood.result))

pub come-requires-3-clause-below : goal.come-requires-3-clause-below
come-requires-3-clause-below c = omega (arith, c.requires.few.each c.args.s.0 (InLocation c.location.result))

pub come-requires-3-clause-service : goal.come-requires-3-clause-service
come-requires-3-clause-service c = omega (arith, c.requires.service, c.requires.numbered.one_each)

pub come-requires-3-clause-numbered : goal.come-requires-3-clause-numbered
come-requires-3-clause-numbered c = rw c.requires.numbered.one_each c.requires.numbered

pub come-requires-3-clause-few : goal.come-requires-3-clause-few
come-requires-3-clause-few c = omega (arith, c.requires.few.locations c.args.s.0)

pub returns-clause-numbered : goal.returns-clause-numbered
returns-clause-numbered c = rw c.requires.numbered.one_each at c.come-3.ensures.numbered

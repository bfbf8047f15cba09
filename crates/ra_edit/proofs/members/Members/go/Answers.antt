-- The process is counted at each spot where it is.
use Rattle.std.proofs.Common.{arith, sym, refl, eq-eqb}
use Rattle.ra_edit.specs.declared.members.Spot.TheVariants.{OnMachine, InNeighbourhood, InLocation}
use Rattle.ra_edit.proofs.members.Members.go.Goals as goal

pub go-requires : goal.go-requires
go-requires c = c.requires.there (OnMachine c.args.m) (eq-eqb _ _ refl)

pub go-requires-2 : goal.go-requires-2
go-requires-2 c = c.requires.there (InNeighbourhood c.neighbourhood.result) (eq-eqb _ _ (sym c.neighbourhood.ensures))

pub go-requires-3-clause-service : goal.go-requires-3-clause-service
go-requires-3-clause-service c = omega (arith, c.requires.service, c.requires.numbered.one_each)

pub go-requires-3-clause-numbered : goal.go-requires-3-clause-numbered
go-requires-3-clause-numbered c = rw c.requires.numbered.one_each c.requires.numbered

pub go-requires-3-clause-there : goal.go-requires-3-clause-there
go-requires-3-clause-there c = c.requires.there (InLocation c.location.result) (eq-eqb _ _ (sym c.location.ensures))

pub returns-clause-numbered : goal.returns-clause-numbered
returns-clause-numbered c = rw c.requires.numbered.one_each at c.go-3.ensures.numbered

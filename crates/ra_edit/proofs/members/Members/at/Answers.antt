-- The count at a spot is that of the definition.
use Rattle.std.proofs.Common.{◌∙◌}
use Rattle.ra_edit.specs.declared.members.Spot.TheVariants.{OnMachine, InNeighbourhood, InLocation}
use Rattle.ra_edit.proofs.MemberLaws.{members_told}
use Rattle.ra_edit.proofs.members.Members.at.Goals as goal

pub returns-in-OnMachine : goal.returns-in-OnMachine
returns-in-OnMachine c = rw c.in-OnMachine.is (λ d has. c.at.ensures
    ∙ members_told c.args.s.0 (OnMachine c.in-OnMachine.m) has)

pub returns-in-InNeighbourhood : goal.returns-in-InNeighbourhood
returns-in-InNeighbourhood c = rw c.in-InNeighbourhood.is (λ d has. c.at-in-InNeighbourhood.ensures
    ∙ members_told c.args.s.0 (InNeighbourhood c.in-InNeighbourhood.label) has)

pub returns-in-InLocation : goal.returns-in-InLocation
returns-in-InLocation c = rw c.in-InLocation.is (λ d has. c.at-in-InLocation.ensures
    ∙ members_told c.args.s.0 (InLocation c.in-InLocation.label) has)

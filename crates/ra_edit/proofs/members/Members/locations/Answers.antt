-- The number kept is that of the definition.
use Rattle.std.proofs.Common.{◌∙◌, arith}
use Rattle.ra_edit.proofs.MemberLaws.{locations_told}
use Rattle.ra_edit.proofs.members.Members.locations.Goals as goal

pub returns : goal.returns
returns c = λ d has. c.number.ensures
    ∙ locations_told c.args.s.0 (omega (arith, c.requires, has.numbered.one_each)) has

-- The change of the costs and the moved counts of one service.
use Rattle.std.proofs.Common.{◌∙◌, rules}
use Rattle.std.specs.Prelude.{FitsSigned}
use Rattle.std.specs.Int.{w128}
use Rattle.std.proofs.lemmas.Int.{to_z-of_z}
use Rattle.ra_shift.proofs.AllowLaws.{apart_after}
use Rattle.ra_shift.proofs.ChangeLaws.{weighed_is}
use Rattle.ra_shift.proofs.shift.Shift.weighed.Goals as goal

pub change-requires-clause-apart : goal.change-requires-clause-apart
change-requires-clause-apart c =
    apart_after c.args.self.now.world.now c.args.self.now.process.0
    c.args.to.0
    c.requires.unbroken

pub returns : goal.returns
returns c =
    let fits : FitsSigned w128 c.change.result = search rules in
    weighed_is c.args.self.now.world.now c.args.self.now.process.0
    c.args.to.0 _
    c.moved_count.result c.requires.unbroken
    (to_z-of_z w128 c.change.result fits ∙ c.change.ensures) c.moved_count.ensures

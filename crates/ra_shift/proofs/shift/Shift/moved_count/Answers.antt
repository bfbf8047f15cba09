-- The counts are those of the definition.
use Rattle.ra_shift.proofs.ChangeLaws.{moved_is}
use Rattle.ra_shift.proofs.shift.Shift.moved_count.Goals as goal
use Rattle.std.proofs.Common.{◌∙◌, ap, sym}
use Rattle.ra_shift.specs.Conditions.{shifted}
use Rattle.ra_model.specs.Situations.{moved_at}

pub returns : goal.returns
returns c =
    let shift = c.args.self.now in
    let w = shift.world.now in
    let p = shift.process.0 in
    moved_is w p c.args.to.0 c.moved.result c.moved-2.result shift.service shift.service_is
    (c.moved.ensures.count _ _ _ c.cells.ensures.stand)
    (c.moved-2.ensures.value ∙ ap (moved_at (record w { here = shifted w.here p c.args.to.0 })) (sym shift.service_is))

-- The locations without the process, and that of the machine where it comes as the first.
use Rattle.std.proofs.Common.{◌∙◌, ap}
use Rattle.ra_model.specs.Numbers.{location_of}
use Rattle.ra_shift.proofs.SpreadLaws.{keeps_with}
use Rattle.ra_shift.proofs.shift.Shift.locations_with.Goals as goal

pub returns : goal.returns
returns c =
    let shift = c.args.self.now in
    let w = shift.world.now in
    let label = c.location-label.ensures ∙ ap (λ j. location_of j c.args.to.0)
    c.instance.ensures.value in
    keeps_with w.tables w.here shift.process.0 c.args.to.0 shift.service.0
    c.spread_without-without.result shift.location c.location-label.result c.one_when-own.result
    c.in_location.result c.one_when.result shift.sound.small shift.sound.fits shift.process_known shift.service_is
    c.spread_without-without.ensures.value shift.location_is label c.one_when-own.ensures.value
    (c.in_location.ensures.count _ _ _ c.cells.ensures.stand) c.one_when.ensures.value

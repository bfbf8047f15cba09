-- More locations than are wanted are enough, since a process leaves at most one of them.
use Rattle.std.proofs.Common.{◌∙◌, ap, refl, arith}
use Rattle.std.proofs.lemmas.Bool.{leb-true, le-leb}
use Rattle.ra_model.specs.Services.{locations_of}
use Rattle.ra_shift.proofs.SpreadLaws.{keeps_anyway}
use Rattle.ra_shift.proofs.shift.Shift.keeps_spread.Goals as goal

pub returns-then-self-locations : goal.returns-then-self-locations
returns-then-self-locations c =
    let shift = c.args.self.now in
    let w = shift.world.now in
    let all = c.locations.ensures.count _ _ _ c.cells.ensures.stand
    ∙ ap (locations_of w.tables w.here) shift.service_is in (
      λ _. keeps_anyway w.tables w.here shift.process.0 c.args.to.0 shift.spread_min
          shift.sound.small shift.sound.fits shift.process_known shift.wants_is
          (omega (arith, c.if-self-locations.true, all)),
      λ _. refl,
    )

pub returns : goal.returns
returns c = (
  λ test. omega (arith, leb-true _ _ test, c.locations_with.ensures, c.args.self.now.wants_is),
  λ enough. le-leb _ _ (omega (arith, enough, c.locations_with.ensures, c.args.self.now.wants_is)),
)

-- The count before, and what the process changes.
use Rattle.std.proofs.Common.{◌∙◌, ap, ap₂, arith}
use Rattle.ra_model.proofs.BoundLemmas.{moved_within}
use Rattle.ra_cells.specs.Marks.{away}
use Rattle.ra_shift.specs.Conditions.{shifted}
use Rattle.ra_shift.proofs.ChangeLaws.{moved_after}
use Rattle.ra_shift.proofs.shift.Shift.moved.Goals as goal
use Rattle.ra_model.specs.Situations.{moved_at}

pub overflow_sub-result : goal.overflow_sub-result
overflow_sub-result c =
    let shift = c.args.self.now in
    (moved_after shift.world.now shift.process.0 c.args.to.0
    shift.service.0
    c.moved-before.result c.is_away-gone.result c.is_away-come.result shift.sound.fits shift.process_known
    shift.service_is (c.moved-before.ensures.count _ _ _ c.cells.ensures.stand) (c.is_away-gone.ensures.value
    ∙ ap₂ away shift.home_is shift.from_is) (c.is_away-come.ensures.value
    ∙ ap (λ h. away h c.args.to.0) shift.home_is)).0

pub returns-clause-value : goal.returns-clause-value
returns-clause-value c =
    let shift = c.args.self.now in
    let w = shift.world.now in
    let after = moved_after w shift.process.0
    c.args.to.0
    shift.service.0 c.moved-before.result c.is_away-gone.result c.is_away-come.result shift.sound.fits
    shift.process_known shift.service_is (c.moved-before.ensures.count _ _ _ c.cells.ensures.stand)
    (c.is_away-gone.ensures.value ∙ ap₂ away shift.home_is shift.from_is) (c.is_away-come.ensures.value
    ∙ ap (λ h. away h c.args.to.0) shift.home_is) in
    after.1 ∙ ap (moved_at (record w { here = shifted w.here shift.process.0 c.args.to.0 })) shift.service_is

pub returns-clause-few : goal.returns-clause-few
returns-clause-few c =
    let shift = c.args.self.now in
    let w = shift.world.now in
    let after = moved_after w shift.process.0
    c.args.to.0
    shift.service.0 c.moved-before.result c.is_away-gone.result c.is_away-come.result shift.sound.fits
    shift.process_known shift.service_is (c.moved-before.ensures.count _ _ _ c.cells.ensures.stand)
    (c.is_away-gone.ensures.value ∙ ap₂ away shift.home_is shift.from_is) (c.is_away-come.ensures.value
    ∙ ap (λ h. away h c.args.to.0) shift.home_is) in
    omega (
      arith,
      after.1,
      moved_within w.tables w.start
          (shifted w.here shift.process.0 c.args.to.0) shift.service.0,
    )

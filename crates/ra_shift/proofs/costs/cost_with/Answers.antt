-- The costs of the row that was made.
use Rattle.std.proofs.Common.{◌∙◌, ap, slice_index}
use Rattle.ra_shift.specs.Sharing.{row_cost_with, use_with}
use Rattle.ra_shift.proofs.ChangeLaws.{row_cost_same}
use Rattle.ra_shift.proofs.costs.cost_with.Goals as goal

pub returns-clause-value : goal.returns-clause-value
returns-clause-value c =
    let i = c.args.world.now.tables in
    c.cost_of_row.ensures.value
    ∙ ap (λ j. row_cost_with j c.args.to.0 (slice_index c.fill_with.new.row)) c.instance.ensures.value
    ∙ row_cost_same i c.args.to.0 (slice_index c.fill_with.new.row)
    (use_with i c.args.world.now.here c.args.p.0 c.args.to.0) c.instance.ensures.sound.well_formed
    c.fill_with.ensures

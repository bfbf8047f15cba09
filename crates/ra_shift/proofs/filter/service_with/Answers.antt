-- The greatest count with that of one service replaced.
use Rattle.std.proofs.Common.{◌∙◌, ◌*◌, Some, None, ap, ap₂}
use Rattle.ra_base.specs.declared.costs.MovedCount.{MovedCount}
use Rattle.ra_model.specs.Numbers.{service_count, service_weight_of}
use Rattle.ra_cells.specs.Replaced.{greatest_with}
use Rattle.ra_shift.proofs.FilterReads.{with_one}
use Rattle.ra_shift.proofs.filter.service_with.Goals as goal

pub returns-clause-value : goal.returns-clause-value
returns-clause-value c = λ f others here.
    let cells = c.cells-cells.result.now in
    let stand = c.cells-cells.ensures.stand in
    let change : MovedCount = record { service = c.args.s; before = c.moved.result; after = c.args.after } in
    let weight = c.from.ensures ∙ c.service_weight.ensures
    ∙ ap (λ j. service_weight_of j) c.instance.ensures.value in
    let most = c.from-2.ensures ∙ c.greatest_after-most.ensures.value
    ∙ ap (λ g. greatest_with g.counts (Some change) None None) c.greatest.ensures
    ∙ with_one cells.greatest.counts change (service_count c.args.world.now.tables) f (cells.counts_there
    ∙ ap service_count stand.instance) (λ k within apart. stand.moved k within
    ∙ others k within apart) here in
    ap₂ (λ x y. x * y) weight most

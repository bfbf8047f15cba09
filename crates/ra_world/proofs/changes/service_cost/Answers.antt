-- The counters have one count for each service, and its greatest is that of the moved counts.
use Rattle.std.proofs.Common.{◌∙◌, ap, List, length, slice_index}
use Rattle.ra_base.specs.Sums.{greatest}
use Rattle.ra_base.specs.declared.ids.Machine.{Machine}
use Rattle.ra_cells.specs.MovedCounts.{MovedCounts}
use Rattle.ra_model.specs.Numbers.{service_count}
use Rattle.ra_world.proofs.CostLaws.{service_from}
use Rattle.ra_world.proofs.changes.service_cost.Goals as goal

pub returns : goal.returns
returns c = λ (a0 a : List Machine) stand.
    let cells = c.args.cells.now in
    service_from c.args.inst.now.tables a0 a cells.greatest.counts c.from.result c.from-2.result
    (cells.counts_there ∙ ap service_count stand.instance) stand.moved (c.from.ensures ∙ c.service_weight.ensures)
    (c.from-2.ensures ∙ c.greatest-most.ensures.value
    ∙ ap (λ (g : MovedCounts). greatest (length g.counts) (slice_index g.counts)) c.greatest.ensures)

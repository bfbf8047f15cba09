-- No process has moved.
use Rattle.std.proofs.Common.{refl}
use Rattle.ra_model.specs.Numbers.{service_count}
use Rattle.ra_cells.proofs.GreatestLemmas.{counted_none}
use Rattle.ra_cells.proofs.greatest.Greatest.make.Goals as goal

pub invariant_of-result : goal.invariant_of-result
invariant_of-result c =
    rw (c.in_ok-counts.ensures, c.services.ensures)
    (counted_none (service_count c.args.inst.now.tables) c.processes-limit.result c.set.new.self.items
    (c.args.inst.now.well_formed.few_services)
    (rw (c.set.ensures.items, c.services-2.ensures, c.in_ok-tallies.ensures) refl))

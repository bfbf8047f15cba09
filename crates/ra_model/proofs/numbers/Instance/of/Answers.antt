use Rattle.ra_model.specs.Numbers.{all_open}
use Rattle.ra_model.proofs.InstanceLemmas.{small_tables}
use Rattle.ra_model.proofs.numbers.Instance.of.Goals as goal

pub invariant_of-result : goal.invariant_of-result
invariant_of-result c = record {
  well_formed = c.requires;
  small = small_tables (all_open c.args.raw) (record { each = c.numbers_in-capacities.ensures.small })
      (record { each = c.numbers_in-safeties.ensures.small }) (record { each = c.numbers_in-move_costs.ensures.small })
      (record { each = c.numbers_in-requirements.ensures.small });
  flagged = tt;
}

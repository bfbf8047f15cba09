use Rattle.ra_model.specs.Numbers.{machine_count}
use Rattle.ra_model.proofs.InstanceLemmas.{small_closed, well_formed_closed}
use Rattle.ra_model.proofs.numbers.Instance.closing.Goals as goal

pub invariant_of-result : goal.invariant_of-result
unfolding machine_count
invariant_of-result c = record {
  well_formed = rw (c.closing.ensures) (well_formed_closed c.args.self.tables c.args.flags c.args.self.well_formed);
  small = rw (c.closing.ensures) (small_closed c.args.self.tables c.args.flags c.args.self.small);
  flagged = rw (c.closing.ensures) c.requires;
}

use Rattle.ra_model.specs.Numbers.{machine_count}
use Rattle.ra_model.proofs.InstanceLemmas.{small_processes}
use Rattle.ra_model.proofs.numbers.Instance.with_processes.Goals as goal

pub invariant_of-result : goal.invariant_of-result
unfolding machine_count
invariant_of-result c = record {
  well_formed = rw (c.with_processes.ensures) c.requires;
  small = rw (c.with_processes.ensures) (small_processes c.args.self.tables c.args.rows c.args.requirements
      c.args.self.small (record { each = c.numbers_in-requirements.ensures.small }));
  flagged = rw (c.with_processes.ensures) c.args.self.flagged;
}

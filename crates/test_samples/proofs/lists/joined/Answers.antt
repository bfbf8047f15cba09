-- Each list and each weight is that of the slices.
use Rattle.test_samples.specs.Copied.{IsCopy}
use Rattle.test_samples.proofs.lists.joined.Goals as goal

pub returns : goal.returns
unfolding IsCopy
returns c = λ lists m p process service machine. (
  m.resources,
  m.machines,
  m.capacities,
  m.safeties,
  m.move_costs,
  p.services,
  p.dependencies,
  p.processes,
  p.requirements,
  p.balances,
  process,
  service,
  machine,
)

-- The first service that is far from what it needs has the first dependency that is broken.
use Rattle.std.proofs.Common.{arith}
use Rattle.ra_model.specs.Broken.{broken_dependency}
use Rattle.ra_weigh.proofs.SeekLemmas.{sought_there, sought_all}
use Rattle.ra_weigh.proofs.trial.Trial.broken_dependency.Goals as goal

pub returns-then-far-services : goal.returns-then-far-services
unfolding broken_dependency
returns-then-far-services c = grind (arith, sought_there)

pub returns-else-far-services : goal.returns-else-far-services
unfolding broken_dependency
returns-else-far-services c = grind (arith, sought_all)

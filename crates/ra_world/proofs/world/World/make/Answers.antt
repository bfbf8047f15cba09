-- What is made is kept of the initial assignment.
use Rattle.std.proofs.Common.{◌∙◌, ap}
use Rattle.ra_model.specs.Broken.{first_broken}
use Rattle.ra_world.proofs.world.World.make.Goals as goal

pub invariant_of-result : goal.invariant_of-result
invariant_of-result c = record {
  fits = c.requires.fits;
  topology = c.requires.topology;
  stays = c.in_ok-stays.ensures;
  processes = c.of.ensures.processes ∙ c.processes.ensures;
  machines = c.of.ensures.machines ∙ c.machines.ensures;
  keeps = c.in_ok-kept.ensures.keeps;
  unbroken = ap (first_broken c.args.inst.now.tables c.args.a0.now.items) c.in_ok-kept.ensures.assignment
      ∙ c.requires.unbroken;
}

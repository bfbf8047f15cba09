-- The steps of a move that isn't refused can be followed.
use Rattle.ra_world.proofs.StepLaws.{steps_from, unbroken_from, counted_few}
use Rattle.ra_world.proofs.world.World.apply.Goals as goal

pub follow-requires-clause-moves : goal.follow-requires-clause-moves
follow-requires-clause-moves g c =
    let w = c.self.inside in
    steps_from _ c.args.mv.now.steps
    (rw (← c.self.view_is) at c.requires.at_from) (rw (← c.self.view_is) at c.requires.to)
    (rw (← c.self.view_is) at c.requires.unbroken)

pub invariant_of-self : goal.invariant_of-self
invariant_of-self g c =
    let w = c.self.inside in
    record {
      fits = c.self.invariant.fits;
      topology = c.self.invariant.topology;
      stays = c.self.invariant.stays;
      processes = c.self.invariant.processes;
      machines = c.self.invariant.machines;
      keeps = c.follow.ensures.keeps;
      unbroken = unbroken_from _ _
          c.args.mv.now.steps (rw (← c.self.view_is) at c.requires.unbroken) c.follow.ensures.assignment;
    }

pub returns-clause-at_most : goal.returns-clause-at_most
returns-clause-at_most g c = rw (← c.self.view_is) (counted_few _ _ _ _ c.follow.ensures.few c.follow.ensures.counted)

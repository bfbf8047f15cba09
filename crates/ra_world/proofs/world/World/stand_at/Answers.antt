-- The list is feasible, so it's one at which a world may stand.
use Rattle.std.proofs.Common.{◌∙◌, ap}
use Rattle.ra_model.specs.Broken.{first_broken}
use Rattle.ra_world.proofs.StandingLaws.{keeps_by_rows, read_few}
use Rattle.ra_world.proofs.world.World.stand_at.Goals as goal

pub stand_at-requires-clause-keeps : goal.stand_at-requires-clause-keeps
stand_at-requires-clause-keeps g c = keeps_by_rows _ _ _ c.self.invariant.keeps

pub stand_at-requires-clause-fits : goal.stand_at-requires-clause-fits
stand_at-requires-clause-fits g c =
    let w = c.self.inside in
    (rw (← c.self.view_is) at c.requires.sound).fits

pub stand_at-requires-clause-parts : goal.stand_at-requires-clause-parts
stand_at-requires-clause-parts g c =
    let w = c.self.inside in
    rw c.self.invariant.keeps.stand.start (rw (← c.self.view_is) at c.requires.parts)

pub invariant_of-self : goal.invariant_of-self
invariant_of-self g c =
    let w = c.self.inside in
    record {
      fits = c.self.invariant.fits;
      topology = c.self.invariant.topology;
      stays = c.self.invariant.stays;
      processes = c.self.invariant.processes;
      machines = c.self.invariant.machines;
      keeps = rw c.self.invariant.keeps.stand.start at c.stand_at.ensures.keeps;
      unbroken = ap (first_broken w.inst.now.tables w.start.now.items) c.stand_at.ensures.assignment
          ∙ (rw (← c.self.view_is) at c.requires.sound).unbroken;
    }

pub returns-clause-at_most : goal.returns-clause-at_most
returns-clause-at_most g c = rw (← c.self.view_is) (read_few _ _ _ _ _ c.stand_at.ensures.counted)

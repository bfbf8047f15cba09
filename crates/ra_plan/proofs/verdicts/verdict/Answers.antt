use Rattle.ra_plan.proofs.Weighed.{has_settling, settling_of}
use Rattle.ra_plan.proofs.verdicts.verdict.Goals as goal

pub settle_now-requires : goal.settle_now-requires
settle_now-requires c =
    record {
      some = rw c.instance.ensures.value
          (has_settling c.args.world.now c.cells.result.now _ _ _
          c.cells.ensures.sound.starts c.cells.ensures.sound.fits c.cells.ensures.stand c.greatest-greatest.ensures
          c.parts.ensures.value
          c.requires.some);
    }

pub returns : goal.returns
returns c = λ steps offered is.
    let world = c.args.world.now in
    let settled = rw c.instance.ensures.value at c.settle_now.ensures in
    settled world.start world.here steps
    (settling_of world steps _ c.cells.ensures.sound.starts c.cells.ensures.sound.fits c.cells.ensures.stand c.greatest-greatest.ensures
    c.parts.ensures.value
    offered is)

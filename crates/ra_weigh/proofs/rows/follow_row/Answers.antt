use Rattle.std.proofs.Common.{◌≡◌, ◌<◌, length, arith}
use Rattle.ra_moves.specs.Replacing.{after_steps}
use Rattle.ra_weigh.proofs.MoveLemmas.{applied_all}
use Rattle.ra_weigh.proofs.RowUse.{required_from, can_follow, row_next}
use Rattle.ra_weigh.proofs.rows.follow_row.Goals as goal

pub loop-j-init : goal.loop-j-init
unfolding after_steps
loop-j-init c = record { width = c.requires.width; now = c.requires.before }

pub follow_step-requires-clause-able : goal.follow_step-requires-clause-able
follow_step-requires-clause-able c = grind (arith, can_follow, required_from)

pub loop-j-preserved : goal.loop-j-preserved
loop-j-preserved c =
    let i = c.args.world.now in
    let within : c.loop-j.j < length c.args.mv.now.steps = omega arith in
    record {
      width = omega (arith, c.follow_step.ensures.same_length, c.loop-j.invariant.width);
      now = row_next i.tables _ _ c.loop-j.j _ _ _ _ _ c.requires.moves within c.step.ensures
          (required_from i.tables _ _ _ c.requires.required within
          (rw c.instance.ensures.value at c.resources-width.ensures) c.required_row.ensures.each)
          c.loop-j.invariant.width c.loop-j.invariant.now c.follow_step.ensures;
    }

pub returns-clause-after : goal.returns-clause-after
returns-clause-after c = grind (arith, applied_all)

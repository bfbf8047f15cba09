use Rattle.std.proofs.Common.{refl, sym, ap, ◌∙◌, arith}
use Rattle.ra_model.specs.Numbers.{resource_count, machine_count}
use Rattle.ra_moves.specs.Options.{option_at}
use Rattle.ra_plan.proofs.OptionSizes.{rest_reads}
use Rattle.ra_plan.proofs.Bests.{best_below, best_planned, best_free, option_in, option_offered, judged_in}
use Rattle.ra_plan.proofs.Bests.{planned_same}
use Rattle.ra_plan.proofs.planning.fill_by_move.Goals as goal

pub weigh-plan-requires : goal.weigh-plan-requires
weigh-plan-requires g c =
    rw c.requires.first
    (option_offered _ _ _ c.requires.sound.well_formed c.requires.sound.fits)

pub verdict-requires : goal.verdict-requires
verdict-requires g c = record {
  some = record {
    steps = c.args.first.now.steps;
    offered = rw c.requires.first
        (option_offered _ _ _ c.requires.sound.well_formed c.requires.sound.fits);
    is = c.weigh-plan.ensures.value;
  };
}

pub best_move-best-requires : goal.best_move-best-requires
best_move-best-requires g c =
    let world = c.args.world.now in
    record {
      first = c.consider-judged.ensures world c.args.words.now c.args.drawing c.args.allowed
          (c.none.ensures world c.args.words.now c.args.drawing c.args.allowed)
          (judged_in world _ _ _ _ _ _ (option_in world _ _ _ 0 _ refl c.requires.first)
          (c.verdict.ensures c.args.first.now.steps
          (rw c.requires.first (option_offered _ _ _ c.requires.sound.well_formed
          c.requires.sound.fits)) c.weigh-plan.ensures.value));
    }

pub move_of-mv-requires-clause-named : goal.move_of-mv-requires-clause-named
move_of-mv-requires-clause-named g c =
    best_below c.args.world.now _ _ _ _ _ refl c.requires.sound.well_formed.some_machine
    c.best_move-best.ensures.best

pub weighing-plan-requires-clause-offered : goal.weighing-plan-requires-clause-offered
weighing-plan-requires-clause-offered g c =
    rw c.move_of-mv.ensures
    (option_offered _ _ _ c.requires.sound.well_formed c.requires.sound.fits)

pub weighing-plan-requires-clause-free : goal.weighing-plan-requires-clause-free
weighing-plan-requires-clause-free g c =
    λ some. best_free c.args.world.now _ _ _ _ _ _ c.best_move-best.ensures.best
    (option_in c.args.world.now _ _ _ _ _ refl c.move_of-mv.ensures) (sym c.is_some.ensures ∙ some)

pub returns : goal.returns
returns g c =
    let world = c.args.world.now in
    let reads = rest_reads c.args.words.now (machine_count world.tables) c.args.drawing
    (resource_count world.tables) c.requires.other in
    record {
      numbers_q = refl;
      numbers_k = refl;
      planned = record {
        planned = best_planned world _ _ _ _ _ refl c.best_move-best.ensures.best c.move_of-mv.ensures;
        weighing = c.weighing-plan.ensures.value;
        offered = rw c.move_of-mv.ensures (option_offered _ _ _ c.requires.sound.well_formed
            c.requires.sound.fits);
      };
      counted = omega (
        arith,
        reads,
        c.weigh-plan.ensures.counted,
        c.best_move-best.ensures.counted,
        c.weighing-plan.ensures.counted,
      );
    }

pub returns-then-best-eq0 : goal.returns-then-best-eq0
returns-then-best-eq0 g c =
    let world = c.args.world.now in
    let reads = rest_reads c.args.words.now (machine_count world.tables) c.args.drawing
    (resource_count world.tables) c.requires.other in
    record {
      numbers_q = refl;
      numbers_k = refl;
      planned = planned_same world _ _ _ _ _ _ c.requires.begun (record {
        planned = best_planned world _ _ _ _ _ refl c.best_move-best.ensures.best
            (c.requires.first
            ∙ ap (λ o. option_at world.here c.args.words.now (machine_count world.tables)
            c.args.drawing o) (sym c.if-best-eq0.true));
        weighing = c.weigh-plan.ensures.value;
        offered = rw c.requires.first (option_offered _ _ _ c.requires.sound.well_formed
            c.requires.sound.fits);
      });
      counted = omega (arith, reads, c.weigh-plan.ensures.counted, c.best_move-best.ensures.counted);
    }

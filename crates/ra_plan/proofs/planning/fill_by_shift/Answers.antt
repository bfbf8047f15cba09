use Rattle.std.proofs.Common.{◌≡◌, ◌<◌, length, refl, ap, ◌∙◌, arith}
use Rattle.ra_base.specs.declared.ids.Process.{Process}
use Rattle.ra_moves.specs.declared.steps.Step.{Step}
use Rattle.ra_moves.specs.Options.{drawn}
use Rattle.ra_plan.proofs.OptionSizes.{alone, shift_length, is_shift, process_drawn, drawn_below}
use Rattle.ra_plan.proofs.Bests.{best_below, best_planned, best_unbroken, option_in, option_offered}
use Rattle.ra_plan.proofs.planning.fill_by_shift.Goals as goal

pub step-requires : goal.step-requires
step-requires g c = omega (arith, shift_length _ _ _ _ _ _ c.requires.first c.requires.shift)

pub make-shift-requires : goal.make-shift-requires
make-shift-requires g c =
    let world = c.args.world.now in
    let process : c.step.result.process.0 ≡ drawn world.here c.args.words.now 1 =
    ap (λ (s : Step). s.process.0) c.step.ensures
    ∙ process_drawn _ _ _ _ _ _ c.requires.first (is_shift _ _ _ _ _ _ c.requires.first c.requires.shift) in
    let fits = c.requires.sound.fits.one_each in
    let some : 0 < length world.here = omega (arith, fits, c.requires.sound.well_formed.some_process) in
    omega (arith, process, fits, drawn_below world.here c.args.words.now 1 some)

pub best_shift-best-requires-clause-named : goal.best_shift-best-requires-clause-named
best_shift-best-requires-clause-named g c = ap (λ (p : Process). p.0) c.make-shift.ensures.process
    ∙ ap (λ (s : Step). s.process.0) c.step.ensures
    ∙ process_drawn _ _ _ _ _ _ c.requires.first (is_shift _ _ _ _ _ _ c.requires.first c.requires.shift)

pub move_of-plan-requires-clause-named : goal.move_of-plan-requires-clause-named
move_of-plan-requires-clause-named g c =
    best_below c.args.world.now _ _ _ _ _ refl c.requires.sound.well_formed.some_machine
    c.best_shift-best.ensures

pub shift_weighing-plan-requires-clause-offered : goal.shift_weighing-plan-requires-clause-offered
shift_weighing-plan-requires-clause-offered g c =
    rw c.move_of-plan.ensures
    (option_offered _ _ _ c.requires.sound.well_formed c.requires.sound.fits)

pub shift_weighing-plan-requires-clause-alone : goal.shift_weighing-plan-requires-clause-alone
shift_weighing-plan-requires-clause-alone g c =
    alone _ _ _ _ _ _ _ c.move_of-plan.ensures c.requires.shift
    (ap (λ (p : Process). p.0) c.make-shift.ensures.process ∙ ap (λ (s : Step). s.process.0) c.step.ensures
    ∙ process_drawn _ _ _ _ _ _ c.requires.first (is_shift _ _ _ _ _ _ c.requires.first c.requires.shift))

pub shift_weighing-plan-requires-clause-best : goal.shift_weighing-plan-requires-clause-best
shift_weighing-plan-requires-clause-best g c =
    λ cost there. best_unbroken c.args.world.now _ _ _ _ cost _ _ c.best_shift-best.ensures
    (option_in c.args.world.now _ _ _ _ _ refl c.move_of-plan.ensures) there

pub returns-clause-planned : goal.returns-clause-planned
returns-clause-planned g c = record {
  planned = best_planned c.args.world.now _ _ _ _ _ refl c.best_shift-best.ensures c.move_of-plan.ensures;
  weighing = c.shift_weighing-plan.ensures.value;
  offered = rw c.move_of-plan.ensures
      (option_offered _ _ _ c.requires.sound.well_formed c.requires.sound.fits);
}

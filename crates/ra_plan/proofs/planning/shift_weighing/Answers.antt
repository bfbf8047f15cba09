-- A shift to a machine of the instance, of which is told what it breaks.
use Rattle.std.proofs.Common.{◌∙◌, ap, sym, subst, arith}
use Rattle.ra_moves.specs.declared.steps.Step.{Step}
use Rattle.ra_model.specs.Numbers.{machine_count}
use Rattle.ra_model.specs.Situations.{Situation}
use Rattle.ra_moves.specs.Judging.{broken_by}
use Rattle.ra_moves.proofs.Settles.{bare_is}
use Rattle.ra_shift.specs.Finding.{IsFinding}
use Rattle.ra_plan.proofs.Weighed.{one_reaches, shift_same, cause_found, unbroken_found}
use Rattle.ra_plan.proofs.planning.shift_weighing.Goals as goal

pub find-requires : goal.find-requires
find-requires g c =
    omega (
      arith,
      one_reaches _ _ _ _ c.requires.offered c.requires.alone,
      ap (λ (s : Step). s.to.0) c.step.ensures,
      ap (λ (w : Situation). machine_count w.tables) c.requires.world,
    )

pub weighed-requires-clause-machine : goal.weighed-requires-clause-machine
weighed-requires-clause-machine g c =
    omega (
      arith,
      one_reaches _ _ _ _ c.requires.offered c.requires.alone,
      ap (λ (s : Step). s.to.0) c.step.ensures,
      ap (λ (w : Situation). machine_count w.tables) c.requires.world,
    )

pub weighed-requires-in-Unbroken-clause-machine : goal.weighed-requires-in-Unbroken-clause-machine
weighed-requires-in-Unbroken-clause-machine g c =
    omega (
      arith,
      one_reaches _ _ _ _ c.requires.offered c.requires.alone,
      ap (λ (s : Step). s.to.0) c.step.ensures,
      ap (λ (w : Situation). machine_count w.tables) c.requires.world,
    )

pub weighed-requires-in-Unbroken-clause-unbroken : goal.weighed-requires-in-Unbroken-clause-unbroken
weighed-requires-in-Unbroken-clause-unbroken g c =
    unbroken_found _ _ _ (subst (IsFinding c.args.shift.now.world.now c.args.shift.now.process.0 c.step.result.to.0)
    c.in-Unbroken.is c.find.ensures)

pub returns-in-Broken-clause-value : goal.returns-in-Broken-clause-value
returns-in-Broken-clause-value g c =
    c.bare.ensures ∙ sym (bare_is _ _ _ (sym (shift_same broken_by c.args.world.now c.args.shift.now.world.now
    c.args.shift.now.process.0 c.step.result.to.0 c.args.mv.now.steps c.requires.world c.requires.alone
    (ap (λ (s : Step). s.to.0) (sym c.step.ensures)))
    ∙ cause_found _ _ _ _ (subst (IsFinding c.args.shift.now.world.now c.args.shift.now.process.0 c.step.result.to.0)
    c.in-Broken.is c.find.ensures)))

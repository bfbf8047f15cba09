use Rattle.std.proofs.Common.{List, length, ap, sym, ◌∙◌, arith}
use Rattle.ra_base.specs.declared.ids.Machine.{Machine}
use Rattle.ra_model.specs.Assignments.{machine_at}
use Rattle.ra_model.proofs.TallyLemmas.{machine_at_read}
use Rattle.ra_world.proofs.RequiredLaws.{process_read}
use Rattle.ra_weigh.proofs.MoveLemmas.{process_known, from_read, to_read}
use Rattle.ra_weigh.proofs.MovedNext.{moved_kept, moved_step, away_few, moved_few}
use Rattle.ra_weigh.proofs.counts.moved_next.Goals as goal

pub returns-then-service_in-s : goal.returns-then-service_in-s
returns-then-service_in-s c = grind (arith, moved_kept)

pub get-home-requires : goal.get-home-requires
get-home-requires c = grind (arith, process_known)

pub overflow_add-result : goal.overflow_add-result
overflow_add-result c = record {
  fits = omega (
    arith,
    moved_few _ _ c.args.moved c.initial.ensures.sound.well_formed c.requires.before,
    c.away.ensures,
    away_few c.get-home.result.0 c.step-step.result.to.0,
  );
}

pub overflow_sub-result : goal.overflow_sub-result
overflow_sub-result c =
    let start = c.args.world.now.start in
    let step = c.step-step.result in
    let known = process_known _ _ _ c.args.j step c.requires.moves c.requires.step c.step-step.ensures in
    omega (
      arith,
      c.requires.before,
      c.away.ensures,
      c.away-2.ensures,
      moved_step c.args.world.now _ c.args.j c.args.s.0 c.get-home.result.0 c.requires.moves
          c.requires.step (sym c.service_in.ensures.value ∙ c.if-service_in-s.false)
          ((machine_at_read start step.process.0 c.get-home.result
          (omega (arith, known, c.initial.ensures.sound.starts.one_each))
          (rw c.initial.ensures.value at c.get-home.ensures))
          ∙ ap (machine_at start) (process_read _ c.args.j step c.step-step.ensures))
          (from_read _ c.args.j step c.step-step.ensures) (to_read _ c.args.j step c.step-step.ensures),
    )

pub returns : goal.returns
returns c = grind (arith, process_known, moved_step, machine_at_read, process_read, from_read, to_read)

-- The process is carried to the machine of the option, whatever machine it comes from.
use Rattle.std.proofs.Common.{◌∙◌, sym, ap, arith, length-set}
use Rattle.std.proofs.lemmas.List.{set-set}
use Rattle.ra_base.specs.declared.causes.Drawing.TheVariants.{Two}
use Rattle.ra_moves.specs.Options.{option_count, target}
use Rattle.ra_repair.specs.Runs.{try_count, try_option}
use Rattle.ra_repair.proofs.ShiftLemmas.{one_step, goes_to, target_there, shift_is, shift_penalty, back_home}
use Rattle.ra_repair.proofs.ShiftLemmas.{asked_known}
use Rattle.ra_repair.proofs.shifting.try_shift.Goals as goal

pub resolve-here-requires-clause-named : goal.resolve-here-requires-clause-named
unfolding try_count
resolve-here-requires-clause-named g c =
    omega (arith, c.requires.named, ap (λ m. option_count c.args.words.now m Two) c.machines.ensures)

pub step-requires : goal.step-requires
step-requires g c = omega (arith, one_step _ _ _ _ _ _ c.requires.asks.kind c.resolve-here.ensures.option)

pub carry-requires-clause-process : goal.carry-requires-clause-process
carry-requires-clause-process g c =
    let fits = c.requires.keeps.stands.fits in
    let b = c.args.kept.now.assignment.items in
    let long = length-set b c.args.process.0 c.args.home in
    omega (
      arith,
      long,
      fits.one_each,
      asked_known _ _ _ _ c.requires.asks
          (omega (arith, long, fits.one_each, c.args.inst.now.well_formed.some_process)),
    )

pub carry-requires-clause-to : goal.carry-requires-clause-to
carry-requires-clause-to g c =
    let to_is = goes_to _ _ _ _ _ _ _ c.requires.asks.kind c.resolve-here.ensures.option c.step.ensures in
    omega (arith, to_is, target_there, c.machines.ensures)

pub returns-clause-option : goal.returns-clause-option
unfolding try_option
returns-clause-option g c =
    shift_is _ c.args.words.now _ c.args.option _ c.shift-mv.result c.requires.asks
    ((goes_to _ _ _ _ _ _ _ c.requires.asks.kind c.resolve-here.ensures.option c.step.ensures)
    ∙ ap (λ m. target Two c.args.words.now m c.args.option) c.machines.ensures) c.shift-mv.ensures

pub returns-clause-after : goal.returns-clause-after
unfolding try_option
returns-clause-after g c =
    let i = c.args.inst.now.tables in
    let b = c.args.kept.now.assignment.items in
    let p = c.args.process.0 in
    let option = shift_is _ c.args.words.now _ c.args.option _ c.shift-mv.result c.requires.asks
    ((goes_to _ _ _ _ _ _ _ c.requires.asks.kind c.resolve-here.ensures.option c.step.ensures)
    ∙ ap (λ m. target Two c.args.words.now m c.args.option) c.machines.ensures) c.shift-mv.ensures in
    shift_penalty i c.args.start.now.items _ c.carry.new.kept.assignment.items c.args.words.now
    c.args.option _ c.shift-mv.result c.carry.new.kept.penalty _
    option c.shift-mv.ensures (c.carry.ensures.assignment ∙ sym (set-set b p c.args.home _))
    c.carry.ensures.keeps.penalty_is c.unless_flawed-after.ensures

pub returns-clause-home : goal.returns-clause-home
returns-clause-home g c =
    back_home c.args.kept.now.assignment.items _ c.args.process.0 _ c.args.home c.carry.ensures.assignment

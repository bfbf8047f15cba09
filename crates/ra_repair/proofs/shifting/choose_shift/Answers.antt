-- One option after another, and home at the end.
use Rattle.std.proofs.Common.{◌∙◌, List, sym, ap, subst, arith}
use Rattle.ra_base.specs.declared.ids.Machine.{Machine}
use Rattle.ra_repair.specs.Runs.{try_option, option_penalty}
use Rattle.ra_repair.specs.Shifting.{AskForShifts}
use Rattle.ra_repair.proofs.OptionLemmas.{counted, first_chosen, next_chosen, best_of}
use Rattle.ra_repair.proofs.ShiftLemmas.{stays, asked_known}
use Rattle.ra_repair.proofs.shifting.choose_shift.Goals as goal

pub try_shift-best-requires-clause-asks : goal.try_shift-best-requires-clause-asks
try_shift-best-requires-clause-asks g c =
    subst (λ (b : List Machine). AskForShifts c.args.words.now b c.args.process.0 c.args.home.0)
    (sym (stays c.args.kept.now.assignment.items c.args.process.0 c.args.home c.requires.asks.at_home)) c.requires.asks

pub try_shift-best-requires-clause-named : goal.try_shift-best-requires-clause-named
try_shift-best-requires-clause-named g c =
    omega (
      arith,
      counted c.args.inst.now.tables c.args.words.now c.options-count.ensures.value c.machines-machines.ensures,
      c.options-count.ensures.some,
    )

pub loop-option-init : goal.loop-option-init
loop-option-init g c =
    let i = c.args.inst.now.tables in
    let a0 = c.args.start.now.items in
    let a = c.args.kept.now.assignment.items in
    let x = c.args.words.now in
    let same = stays a c.args.process.0 c.args.home c.requires.asks.at_home in
    let first = c.try_shift-best.ensures in
    record {
      chosen = first_chosen _ _ c.try_shift-best.result
          (first.option ∙ ap (λ b. try_option i b x 0) same) (first.after ∙ ap (λ b. option_penalty i a0 b x 0) same);
      keeps = first.keeps;
      home = first.home ∙ same;
    }

pub try_shift-next-requires-clause-asks : goal.try_shift-next-requires-clause-asks
try_shift-next-requires-clause-asks g c =
    subst (λ (b : List Machine). AskForShifts c.args.words.now b c.args.process.0 c.args.home.0)
    (sym c.loop-option.invariant.home) c.requires.asks

pub try_shift-next-requires-clause-named : goal.try_shift-next-requires-clause-named
try_shift-next-requires-clause-named g c =
    omega (
      arith,
      counted c.args.inst.now.tables c.args.words.now c.options-count.ensures.value c.machines-machines.ensures,
      c.loop-option-test.true,
    )

pub loop-option-preserved : goal.loop-option-preserved
loop-option-preserved g c =
    let i = c.args.inst.now.tables in
    let a0 = c.args.start.now.items in
    let a = c.args.kept.now.assignment.items in
    let x = c.args.words.now in
    let k = c.loop-option.option in
    let same = c.loop-option.invariant.home in
    let next = c.try_shift-next.ensures in
    record {
      chosen = next_chosen k _ _ c.loop-option.best c.try_shift-next.result _
          c.loop-option.invariant.chosen
          (next.option ∙ ap (λ b. try_option i b x k) same) (next.after ∙ ap (λ b. option_penalty i a0 b x k) same)
          c.better-best.ensures;
      keeps = next.keeps;
      home = next.home ∙ same;
    }

pub carry-requires-clause-process : goal.carry-requires-clause-process
carry-requires-clause-process g c =
    let fits = c.requires.keeps.stands.fits in
    let some = c.args.inst.now.well_formed.some_process in
    omega (arith, fits.one_each, asked_known _ _ _ _ c.requires.asks (omega (arith, fits.one_each, some)))

pub carry-requires-clause-to : goal.carry-requires-clause-to
carry-requires-clause-to g c =
    let fits = c.requires.keeps.stands.fits in
    let some = c.args.inst.now.well_formed.some_process in
    let known = asked_known _ _ _ _ c.requires.asks (omega (arith, fits.one_each, some)) in
    omega (arith, c.requires.asks.at_home, fits.in_range c.args.process.0 (omega (arith, fits.one_each, known)))

pub returns-clause-chosen : goal.returns-clause-chosen
returns-clause-chosen g c =
    (best_of c.args.inst.now.tables c.args.start.now.items c.args.kept.now.assignment.items c.args.words.now
    c.loop-option.invariant.chosen c.options-count.ensures.value c.machines-machines.ensures
    (omega (arith, c.loop-option-test.false, c.loop-option.auto.option-end, c.options-count.ensures.some))).0

pub returns-clause-least : goal.returns-clause-least
returns-clause-least g c =
    (best_of c.args.inst.now.tables c.args.start.now.items c.args.kept.now.assignment.items c.args.words.now
    c.loop-option.invariant.chosen c.options-count.ensures.value c.machines-machines.ensures
    (omega (arith, c.loop-option-test.false, c.loop-option.auto.option-end, c.options-count.ensures.some))).1

pub returns-clause-same : goal.returns-clause-same
returns-clause-same g c = c.carry.ensures.assignment ∙ c.loop-option.invariant.home

-- One option after another.
use Rattle.std.proofs.Common.{◌∙◌, ap, arith}
use Rattle.ra_repair.specs.Runs.{try_option, option_penalty}
use Rattle.ra_repair.proofs.OptionLemmas.{counted, first_chosen, next_chosen, best_of}
use Rattle.ra_repair.proofs.options.choose_in_turn.Goals as goal

pub try_option-best-requires-clause-named : goal.try_option-best-requires-clause-named
try_option-best-requires-clause-named g c =
    omega (
      arith,
      counted c.args.inst.now.tables c.args.words.now c.options-count.ensures.value c.machines-machines.ensures,
      c.options-count.ensures.some,
    )

pub loop-option-init : goal.loop-option-init
loop-option-init g c = record {
  chosen = first_chosen
      _
      _ c.try_option-best.result
      c.try_option-best.ensures.option c.try_option-best.ensures.after;
  keeps = c.try_option-best.ensures.keeps;
  same = c.try_option-best.ensures.same;
}

pub try_option-next-requires-clause-named : goal.try_option-next-requires-clause-named
try_option-next-requires-clause-named g c =
    omega (
      arith,
      counted c.args.inst.now.tables c.args.words.now c.options-count.ensures.value c.machines-machines.ensures,
      c.loop-option-test.true,
    )

pub loop-option-preserved : goal.loop-option-preserved
loop-option-preserved g c =
    let i = c.args.inst.now.tables in
    let a0 = c.args.start.now.items in
    let a = c.args.kept.now.assignment.items in
    let x = c.args.words.now in
    let same = c.loop-option.invariant.same in
    record {
      chosen = next_chosen c.loop-option.option _ _ c.loop-option.best
          c.try_option-next.result _ c.loop-option.invariant.chosen (c.try_option-next.ensures.option
          ∙ ap (λ b. try_option i b x c.loop-option.option) same) (c.try_option-next.ensures.after
          ∙ ap (λ b. option_penalty i a0 b x c.loop-option.option) same) c.better-best.ensures;
      keeps = c.try_option-next.ensures.keeps;
      same = c.try_option-next.ensures.same ∙ same;
    }

pub returns-clause-chosen : goal.returns-clause-chosen
returns-clause-chosen g c =
    (best_of c.args.inst.now.tables c.args.start.now.items c.args.kept.now.assignment.items c.args.words.now
    c.loop-option.invariant.chosen c.options-count.ensures.value c.machines-machines.ensures
    (omega (arith, c.loop-option-test.false, c.loop-option.auto.option-end, c.options-count.ensures.some))).0

pub returns-clause-least : goal.returns-clause-least
returns-clause-least g c =
    (best_of c.args.inst.now.tables c.args.start.now.items c.args.kept.now.assignment.items c.args.words.now
    c.loop-option.invariant.chosen c.options-count.ensures.value c.machines-machines.ensures
    (omega (arith, c.loop-option-test.false, c.loop-option.auto.option-end, c.options-count.ensures.some))).1

use Rattle.std.proofs.Common.{◌≡◌, ◌<◌, length, sym, ap, ◌∙◌, arith}
use Rattle.ra_base.specs.Listed.{Listed}
use Rattle.ra_base.specs.declared.ids.Machine.{Machine}
use Rattle.ra_model.specs.Situations.{situation}
use Rattle.ra_moves.specs.Options.{option_cost, plan_place, plan_of}
use Rattle.ra_moves.proofs.OptionLemmas.{option_stands, option_reaches}
use Rattle.ra_moves.proofs.Repeats.{distinct_from_none}
use Rattle.plain.proofs.Cheapest.{cheapest_more, first_place, option_is}
use Rattle.plain.proofs.planning.plan_plainly.Goals as goal

pub loop-option-init : goal.loop-option-init
loop-option-init c =
    let cost = option_cost (situation c.args.inst.now.tables c.args.a0.now.items c.args.a.now.items) c.args.words.now
    c.args.drawing
    c.args.allowed in
    record {
      best = rw (first_place cost)
          (option_is _ _ _ c.args.other.now.items _ _ _ _ 0 _ c.machines-machines.ensures c.requires.same
          c.resolve-mv.ensures.option c.judge_plainly-verdict.ensures.verdict);
      unchanged = c.judge_plainly-verdict.ensures.unchanged;
      made = c.judge_plainly-verdict.ensures.kept;
    }

pub loop-option-preserved : goal.loop-option-preserved
loop-option-preserved c =
    let same : c.loop-option.other.items ≡ c.args.a.now.items =
    ap (λ (l : Listed Machine). l.items) c.loop-option.invariant.unchanged ∙ c.requires.same in
    let next = option_is _ _ _ _ _ _ _ _ c.loop-option.option _ c.machines-machines.ensures same
    c.resolve-mv-in-loop-option.ensures.option c.judge_plainly-verdict-in-loop-option.ensures.verdict in
    record {
      best = rw c.cheaper-best.ensures
          (cheapest_more _ _ _ _ _ _ _ (omega arith) c.loop-option.invariant.best next);
      unchanged = c.judge_plainly-verdict-in-loop-option.ensures.unchanged ∙ c.loop-option.invariant.unchanged;
      made = c.judge_plainly-verdict-in-loop-option.ensures.kept;
    }

pub returns-clause-planned : goal.returns-clause-planned
unfolding plan_of plan_place
returns-clause-planned c =
    let inst = c.args.inst.now in
    let best = c.loop-option.invariant.best in
    let some : 0 < length c.args.a.now.items =
    omega (arith, c.requires.fits.one_each, inst.well_formed.some_process) in
    let all : c.loop-option.option ≡ c.options-count.result = omega arith in
    record {
      move = rw (all, c.options-count.ensures.value, c.machines-machines.ensures) at best.move;
      verdict = best.verdict;
      stands = rw best.move (option_stands _ _ _ _ _ some inst.well_formed.some_machine);
      reaches = rw best.move
          (option_reaches _ _ _ _ _ some inst.well_formed.some_machine
          (λ p within. c.requires.fits.in_range p (omega (arith, c.requires.fits.one_each))));
      distinct = distinct_from_none _;
    }

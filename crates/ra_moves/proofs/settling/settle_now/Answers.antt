use Rattle.std.proofs.Common.{◌∙◌, arith}
use Rattle.std.proofs.lemmas.Int.{ints}
use Rattle.ra_moves.proofs.Settles.{changes, settles, refuses}
use Rattle.ra_moves.proofs.settling.settle_now.Goals as goal

pub greatest_after-after-requires-clause-first : goal.greatest_after-after-requires-clause-first
greatest_after-after-requires-clause-first c =
    (changes _ _ _ _ _ c.args.inst.now.well_formed c.requires.some.settling).first

pub greatest_after-after-requires-clause-second : goal.greatest_after-after-requires-clause-second
greatest_after-after-requires-clause-second c =
    (changes _ _ _ _ _ c.args.inst.now.well_formed c.requires.some.settling).second

pub greatest_after-after-requires-clause-third : goal.greatest_after-after-requires-clause-third
greatest_after-after-requires-clause-third c =
    (changes _ _ _ _ _ c.args.inst.now.well_formed c.requires.some.settling).third

pub greatest_after-after-requires-clause-first_second : goal.greatest_after-after-requires-clause-first_second
greatest_after-after-requires-clause-first_second c =
    (changes _ _ _ _ _ c.args.inst.now.well_formed c.requires.some.settling).first_second

pub greatest_after-after-requires-clause-first_third : goal.greatest_after-after-requires-clause-first_third
greatest_after-after-requires-clause-first_third c =
    (changes _ _ _ _ _ c.args.inst.now.well_formed c.requires.some.settling).first_third

pub greatest_after-after-requires-clause-second_third : goal.greatest_after-after-requires-clause-second_third
greatest_after-after-requires-clause-second_third c =
    (changes _ _ _ _ _ c.args.inst.now.well_formed c.requires.some.settling).second_third

pub settle-requires-clause-not_negative : goal.settle-requires-clause-not_negative
settle-requires-clause-not_negative c =
    let h = c.requires.some in
    let all = settles _ _ _ _ _ _ _ _ c.args.inst.now.well_formed c.args.inst.now.small h.settling
    c.greatest-now.ensures.value c.greatest_after-after.ensures.value c.service_weight.ensures in
    let is = all.is in
    omega (arith, ints)

pub settle-requires-clause-fits : goal.settle-requires-clause-fits
settle-requires-clause-fits c =
    let all = settles _ _ _ _ _ _ _ _ c.args.inst.now.well_formed c.args.inst.now.small c.requires.some.settling
    c.greatest-now.ensures.value c.greatest_after-after.ensures.value c.service_weight.ensures in
    let is = all.is in
    let small = all.small in
    omega (arith, ints)

pub returns : goal.returns
returns c = λ a0 a steps settling.
    let all = settles _ steps _ _ _ _ _ _ c.args.inst.now.well_formed c.args.inst.now.small settling
    c.greatest-now.ensures.value c.greatest_after-after.ensures.value c.service_weight.ensures in
    c.settle.ensures all.cost all.is ∙ all.judged c.args.allowed

pub returns-in-Some : goal.returns-in-Some
returns-in-Some c = λ a0 a steps settling. refuses _ steps _ _ _ _ _ settling c.in-Some.is

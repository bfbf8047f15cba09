-- The first option says whether the words ask for shifts.
use Rattle.std.proofs.Common.{◌∙◌, sym, arith}
use Rattle.ra_repair.proofs.ShiftLemmas.{option_some, kind_is, one_step, asks_from}
use Rattle.ra_repair.proofs.options.choose.Goals as goal

pub resolve-first-requires-clause-named : goal.resolve-first-requires-clause-named
resolve-first-requires-clause-named g c =
    option_some c.args.words.now c.machines.result
    (omega (arith, c.machines.ensures, c.args.inst.now.well_formed.some_machine))

pub step-leaves-requires : goal.step-leaves-requires
step-leaves-requires g c =
    let kind = kind_is _ _ _ _ _ _ c.resolve-first.ensures.option (sym c.kind.ensures ∙ c.in-Shift.is) in
    omega (arith, one_step _ _ _ _ _ _ kind c.resolve-first.ensures.option)

pub choose_shift-requires-clause-asks : goal.choose_shift-requires-clause-asks
choose_shift-requires-clause-asks g c =
    asks_from _ _ _ _ _ _ _ c.resolve-first.ensures.option (sym c.kind.ensures ∙ c.in-Shift.is) c.step-leaves.ensures

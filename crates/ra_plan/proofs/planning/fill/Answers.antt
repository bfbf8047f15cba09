use Rattle.std.proofs.Common.{sym, ◌∙◌}
use Rattle.ra_plan.proofs.OptionSizes.{asks_shift, is_shift}
use Rattle.ra_plan.proofs.planning.fill.Goals as goal

pub fill_by_shift-requires-clause-shift : goal.fill_by_shift-requires-clause-shift
fill_by_shift-requires-clause-shift g c = asks_shift _ _ _ _ _ _ c.requires.first (sym c.kind.ensures ∙ c.in-Shift.is)

pub fill_by_move-requires-clause-other : goal.fill_by_move-requires-clause-other
fill_by_move-requires-clause-other g c =
    λ is. c.in_default.not-Shift (c.kind.ensures ∙ is_shift _ _ _ _ _ _ c.requires.first is)

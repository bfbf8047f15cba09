-- The world is the one that the shift was made of.
use Rattle.std.proofs.Common.{◌∙◌, sym, ap}
use Rattle.ra_base.specs.declared.costs.Parts.{Parts}
use Rattle.ra_model.specs.Costs.{parts_of}
use Rattle.ra_model.specs.Situations.{cost_at}
use Rattle.ra_descent.proofs.windows.cheapest_of.Goals as goal

pub of_home-best-requires : goal.of_home-best-requires
unfolding parts_of
of_home-best-requires g c =
    ap (λ (parts : Parts). parts.total) c.parts.ensures.value ∙ ap cost_at (sym c.make-shift.ensures.world)

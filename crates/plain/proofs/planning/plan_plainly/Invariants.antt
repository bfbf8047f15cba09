-- The first option of least cost among those so far.
use Rattle.std.proofs.Common.{◌≡◌}
use Rattle.ra_base.specs.Searches.{least_place}
use Rattle.ra_model.specs.Situations.{situation}
use Rattle.ra_check.specs.Made.{IsMadeFor}
use Rattle.ra_moves.specs.Options.{option_cost}
use Rattle.plain.proofs.Cheapest.{IsOption}
use Rattle.plain.proofs.planning.plan_plainly.Given as goal

abbrev pub invariant-loop-option : goal.invariant-loop-option
invariant-loop-option l = record {
  best : IsOption (situation l.inst.tables l.a0.items l.a.items) l.words l.drawing l.allowed
      (least_place l.option (option_cost (situation l.inst.tables l.a0.items l.a.items) l.words l.drawing l.allowed))
      l.best;
  unchanged : l.other ≡ l.fn.other;
  made : IsMadeFor l.scratch l.inst.tables;
}

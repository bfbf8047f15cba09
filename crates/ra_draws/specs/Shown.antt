-- What a contract sees of `Lots`: the slack, the drawing, and the lot of each worker.
use Rattle.std.specs.Prelude.{ℕ, List}
use Rattle.ra_base.specs.declared.causes.Drawing.{Drawing}
use Rattle.ra_draws.specs.declared.sources.Lot.{Lot}
use Rattle.ra_draws.specs.declared.budgets.Lots.{Lots}

abbrev pub slack_in : Lots → ℕ
slack_in l = l.slack

abbrev pub drawing_in : Lots → Drawing
drawing_in l = l.drawing

abbrev pub lots_shown : Lots → List Lot
lots_shown l = l.lots.items

-- The lot, and for how many of its proposals words were drawn.
use Rattle.std.proofs.Common.{◌≡◌}
use Rattle.ra_draws.specs.Lots.{lot_at}
use Rattle.plain.proofs.proposals.words_of.Given as goal

abbrev pub invariant-loop-made : goal.invariant-loop-made
invariant-loop-made l = record {
  lot : l.draws.lot ≡ lot_at l.lots.lots.items l.fn.worker;
  drawn : l.draws.made ≡ l._made;
}

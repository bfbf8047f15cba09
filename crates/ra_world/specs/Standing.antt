-- What stays, if the assignment changes and its costs are not yet computed again.
use Rattle.std.specs.Prelude.{◌≡◌}
use Rattle.ra_world.specs.declared.kept.Kept.{Kept}
use Rattle.ra_world.specs.Keeping.{Stand}

-- rows and counters represent the new assignment, for the same instance and start, and all else is as it was
pub record OnlyMoves (old new : Kept) : Type 0 where
  pub stand : Stand new old.rows.tables old.rows.start new.assignment.items
  pub loads : new.loads ≡ old.loads
  pub balances : new.balances ≡ old.balances
  pub filters : new.filters ≡ old.filters
  pub parts : new.parts ≡ old.parts

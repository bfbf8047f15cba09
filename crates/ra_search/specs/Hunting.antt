-- What a search keeps, whatever it does.
use Rattle.std.specs.Prelude.{◌≤◌}
use Rattle.ra_search.specs.declared.hunt.Hunt.{Hunt}
use Rattle.ra_search.specs.Moving.{Reaches}

-- the instance and the start are the same, and the best list costs no more than before
pub record HasHunted (old new : Hunt) : Type 0 where
  pub reaches : Reaches old.lead.world new.lead.world
  pub no_dearer : new.best.parts.total ≤ old.best.parts.total

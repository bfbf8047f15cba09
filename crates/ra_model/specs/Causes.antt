-- The causes that name a broken constraint. The other causes concern moves alone: a process named twice, a step that
-- stays, a rise of the cost.
use Rattle.ra_base.specs.declared.causes.Cause.{Cause}
use Rattle.ra_base.specs.declared.causes.Cause.TheVariants.{Repeat, Same, Capacity, Transient, Conflict, Spread}
use Rattle.ra_base.specs.declared.causes.Cause.TheVariants.{Dependency, Rise, Closed}

abbrev pub IsConstraint : Cause → Type 0
IsConstraint (Capacity machine resource used cap) = Unit {0}
IsConstraint (Transient machine resource used cap) = Unit {0}
IsConstraint (Conflict service machine) = Unit {0}
IsConstraint (Spread service has wants) = Unit {0}
IsConstraint (Dependency service needs neighbourhood) = Unit {0}
IsConstraint (Closed process machine) = Unit {0}
IsConstraint (Repeat process) = ⊥
IsConstraint (Same process) = ⊥
IsConstraint (Rise allowed before after) = ⊥

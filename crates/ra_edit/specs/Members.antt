-- The counts of the processes of each service, by spot, which are kept while edits change them.
use Rattle.std.specs.Prelude.{◌≡◌, ℕ, ◌+◌, ◌≤◌, ◌==◌, ◌&&◌, length}
use Rattle.ra_base.specs.Sums.{one_if}
use Rattle.ra_model.specs.declared.raw.Tables.{Tables}
use Rattle.ra_model.specs.Assignments.{tally}
use Rattle.ra_model.specs.Numbers.{service_count, neighbourhood_of, location_of}
use Rattle.ra_model.specs.Services.{of_service}
use Rattle.ra_edit.specs.declared.members.Members.{Members}
use Rattle.ra_edit.specs.declared.members.Spot.{Spot}
use Rattle.ra_edit.specs.declared.members.Spot.TheVariants.{OnMachine, InNeighbourhood, InLocation}
use Rattle.ra_edit.specs.Counts.{count_in, HasCount}
use Rattle.ra_edit.specs.Drafts.{Drafted, instance_of}
use Rattle.ra_edit.specs.Locations.{labels_in, AreNumbered}
use Rattle.ra_edit.specs.Spots.{is_there}

-- how many processes of service s are counted at a spot
abbrev pub members_in : Members → ℕ → Spot → ℕ
members_in members s (OnMachine m) = count_in members.machines s m.0
members_in members s (InNeighbourhood label) = count_in members.neighbourhoods s label
members_in members s (InLocation label) = count_in members.locations.counts s label

-- the first n processes of a draft are counted, each at the spots where it is, and the locations of each service
pub record HasMembers (d : Drafted) (n : ℕ) (members : Members) : Type 0 where
  pub each : (s : ℕ) (spot : Spot)
      → members_in members s spot
      ≡ tally n (of_service (instance_of d) s (is_there d.origin spot)) d.current
  pub numbered : AreNumbered (service_count d.origin) members.locations

-- all processes of a draft are counted
abbrev pub AreMembersOf : Drafted → Members → Type 0
AreMembersOf d members = HasMembers d (length d.rows) members

-- one of two has one more process, which is of service s and on machine m
pub record HasMember (i : Tables) (s m : ℕ) (low high : Members) : Type 0 where
  pub each : (t : ℕ) (spot : Spot)
      → members_in high t spot ≡ members_in low t spot + one_if (s == t && is_there i spot 0 m)

-- both lists count the same processes
pub record AreSameIn (old new : Members) : Type 0 where
  pub each : (s : ℕ) (spot : Spot) → members_in new s spot ≡ members_in old s spot
  pub numbers : new.locations.numbers.items ≡ old.locations.numbers.items

-- to count a process more of service s on machine m takes no memory
pub record HasCountsFor (i : Tables) (s m : ℕ) (members : Members) : Type 0 where
  pub machine : HasCount members.machines s m
  pub neighbourhood : HasCount members.neighbourhoods s (neighbourhood_of i m)
  pub location : HasCount members.locations.counts s (location_of i m)

-- no more are counted than an instance may have
pub record AreFewIn (members : Members) : Type 0 where
  pub each : (s : ℕ) (spot : Spot) → members_in members s spot ≤ 50000
  pub locations : (s : ℕ) → labels_in members.locations.counts s ≤ 50000

-- The counts of the moved processes, which are kept while edits change them.
use Rattle.std.specs.Prelude.{◌≡◌, ℕ, length, slice_index}
use Rattle.ra_model.specs.Numbers.{service_count}
use Rattle.ra_model.specs.Services.{moved_of}
use Rattle.ra_cells.specs.MovedCounts.{MovedCounts}
use Rattle.ra_edit.specs.Drafts.{Drafted, instance_of}

-- the count of each service is how many of its processes aren't on their initial machine
pub record AreMovedOfDraft (d : Drafted) (moved : MovedCounts) : Type 0 where
  pub one_each : length moved.counts ≡ service_count d.origin
  pub each : (s : ℕ) → slice_index moved.counts s ≡ moved_of (instance_of d) d.initial d.current s

-- What holds of a draft at all times, and of what an edit makes of it.
use Rattle.std.specs.Prelude.{◌≡◌, ◌*◌, Some, None}
use Rattle.ra_base.specs.declared.costs.Parts.{Parts}
use Rattle.ra_model.specs.declared.raw.Tables.{Tables}
use Rattle.ra_model.specs.Limits.{WellFormed}
use Rattle.ra_model.specs.Numbers.{resource_count}
use Rattle.ra_model.specs.Assignments.{IsAssignment}
use Rattle.ra_model.specs.Costs.{parts_of}
use Rattle.ra_edit.specs.declared.verdicts.Judged.{Judged}
use Rattle.ra_edit.specs.declared.verdicts.Judged.TheVariants.{Refused, Fine}
use Rattle.ra_edit.specs.declared.lists.Lists.{Lists}
use Rattle.ra_edit.specs.Drafts.{Drafted, instance_of}
use Rattle.ra_edit.specs.Replies.{broken_in}

-- the draft of an instance's other lists and the lists of its processes
abbrev pub drafted : Tables → Lists → Drafted
drafted i l =
    record {
      origin = i;
      rows = l.rows.items;
      requirements = l.requirements.items;
      initial = l.initial.items;
      current = l.current.items;
    }

-- the instance of an instance's other lists and the lists of its processes
abbrev pub tables_with : Tables → Lists → Tables
tables_with i l = instance_of (drafted i l)

-- the lists have room for the most processes that an instance may have
pub record HasRoomForProcesses (i : Tables) (l : Lists) : Type 0 where
  pub rows : l.rows.room ≡ 50000
  pub requirements : l.requirements.room ≡ 50000 * resource_count i
  pub initial : l.initial.room ≡ 50000
  pub current : l.current.room ≡ 50000

-- an instance within the limits, and two lists that fit it
pub record IsSoundDraft (d : Drafted) : Type 0 where
  pub well_formed : WellFormed (instance_of d)
  pub initial : IsAssignment (instance_of d) d.initial
  pub current : IsAssignment (instance_of d) d.current

-- a sound draft whose current list breaks no constraint and costs these parts
pub record IsKeptDraft (d : Drafted) (parts : Parts) : Type 0 where
  pub sound : IsSoundDraft d
  pub unbroken : broken_in d ≡ None
  pub parts_are : parts ≡ parts_of (instance_of d) d.initial d.current

-- what is known of a draft: its first broken constraint, or the parts of its cost
abbrev pub IsJudgedDraft : Drafted → Judged → Type 0
IsJudgedDraft d (Refused cause) = broken_in d ≡ Some cause
IsJudgedDraft d (Fine parts) =
    (broken_in d ≡ None) × (parts ≡ parts_of (instance_of d) d.initial d.current)

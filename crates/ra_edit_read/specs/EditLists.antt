-- What a contract sees of `Edits`: the edits in their order, and a row of requirements for each.
use Rattle.std.specs.Prelude.{◌≡◌, ℕ, ◌*◌, ◌<◌, List, length, take, drop, slice_index_or}
use Rattle.ra_model.specs.declared.raw.Tables.{Tables}
use Rattle.ra_model.specs.Numbers.{resource_count, machine_count, service_count}
use Rattle.ra_edit_read.specs.declared.edits.Edit.{Edit}
use Rattle.ra_edit_read.specs.declared.edits.Edit.TheVariants.{Add, Retire, Resize}

pub record EditLists : Type 0 where
  -- how many resources there are
  pub width : ℕ
  pub edits : List Edit
  -- by edit, then resource
  pub requirements : List ℕ

-- edit number k
unfoldable pub edit_at : EditLists → ℕ → Edit
edit_at e k = slice_index_or e.edits k (Retire 0)

-- row number k of a table of this width
unfoldable pub row_of : ℕ → List ℕ → ℕ → List ℕ
row_of width table k = take width (drop (k * width) table)

-- the service and the machine of an added process exist
abbrev pub FitsInstance : Tables → Edit → Type 0
FitsInstance i (Add service machine move_cost) =
    (service.0 < service_count i) × (machine.0 < machine_count i)
FitsInstance i (Retire process) = Unit {0}
FitsInstance i (Resize process) = Unit {0}

abbrev pub AllFit : Tables → List Edit → Type 0
AllFit i edits = (k : ℕ) → k < length edits → FitsInstance i (slice_index_or edits k (Retire 0))

-- edits that were read for an instance: each has a requirement for each of its resources, and the service and the
-- machine of each added process exist
pub record AreEditsFor (i : Tables) (e : EditLists) : Type 0 where
  pub width : e.width ≡ resource_count i
  pub rows : length e.requirements ≡ length e.edits * resource_count i
  pub each : AllFit i e.edits

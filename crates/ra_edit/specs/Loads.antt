-- The use of the machines, which is kept while edits change it.
use Rattle.std.specs.Prelude.{◌≡◌, ℕ, ◌+◌, ◌<◌, ◌≤◌, if◌then◌else◌, ◌==◌, ◌||◌, true, List, length, slice_index}
use Rattle.ra_base.specs.Tables.{cell}
use Rattle.ra_model.specs.Numbers.{resource_count}
use Rattle.ra_model.specs.Assignments.{machine_at}
use Rattle.ra_model.specs.Usage.{use_share, use_of, transient_share, transient_of}
use Rattle.ra_check.specs.Made.{IsGrid}
use Rattle.ra_check.specs.Stands.{IsTally}
use Rattle.ra_topology.specs.Fits.{IsTopologyOf}
use Rattle.ra_edit.specs.declared.keeping.Kept.{Kept}
use Rattle.ra_edit.specs.declared.loads.Loads.{Loads}
use Rattle.ra_edit.specs.Drafts.{Drafted, instance_of}
use Rattle.ra_edit.specs.Keeping.{drafted, HasRoomForProcesses, IsKeptDraft}
use Rattle.ra_edit.specs.Members.{AreMembersOf}
use Rattle.ra_edit.specs.Moved.{AreMovedOfDraft}

-- one table has more than another by an amount of each resource at machine `at`, and by nothing elsewhere
pub record HasMoreAt (width at : ℕ) (amount : ℕ → ℕ) (low high : List ℕ) : Type 0 where
  pub each : (m r : ℕ) → r < width
      → cell width high m r ≡ cell width low m r + (if at == m then amount r else 0)
  pub same_length : length high ≡ length low

-- one table has more than another by an amount of each resource at two machines, once if they are equal
pub record HasMoreBetween (width home at : ℕ) (amount : ℕ → ℕ) (low high : List ℕ) : Type 0 where
  pub each : (m r : ℕ) → r < width
      → cell width high m r
      ≡ cell width low m r + (if (home == m) || (at == m) then amount r else 0)
  pub same_length : length high ≡ length low

-- a table has at least an amount of each resource at machine `at`
abbrev pub HasAtLeast : ℕ → ℕ → (ℕ → ℕ) → List ℕ → Type 0
HasAtLeast width at amount table = (r : ℕ) → r < width → amount r ≤ cell width table at r

-- one of two has in addition what a process uses, whose machine was `home` at first and is `at` now
pub record HasMoreUse (width home at : ℕ) (amount : ℕ → ℕ) (low high : Loads) : Type 0 where
  pub used : HasMoreAt width at amount low.used.items high.used.items
  pub between : HasMoreBetween width home at amount low.between.items high.between.items

-- what the first n processes of a draft use of each resource of each machine, now and in transition
pub record HasCounted (d : Drafted) (n : ℕ) (loads : Loads) : Type 0 where
  pub used : IsTally (resource_count d.origin) n (use_share (instance_of d)) d.current
      loads.used.items
  pub between : IsTally (resource_count d.origin) n (transient_share (instance_of d) d.initial)
      d.current loads.between.items
  pub used_grid : IsGrid d.origin loads.used.items
  pub between_grid : IsGrid d.origin loads.between.items

-- what all processes of a draft use
abbrev pub AreLoadsOf : Drafted → Loads → Type 0
AreLoadsOf d loads = HasCounted d (length d.rows) loads

-- a row that has what a function gives for each resource
pub record IsRowOf (d : Drafted) (f : ℕ → ℕ) (row : List ℕ) : Type 0 where
  pub one_each : length row ≡ resource_count d.origin
  pub each : (r : ℕ) → r < resource_count d.origin → slice_index row r ≡ f r

-- the use of each resource of machine m
abbrev pub IsUseRow : Drafted → ℕ → List ℕ → Type 0
IsUseRow d m = IsRowOf d (use_of (instance_of d) d.current m)

-- the transient use of each resource of machine m
abbrev pub IsTransientRowOfDraft : Drafted → ℕ → List ℕ → Type 0
IsTransientRowOfDraft d m = IsRowOf d (transient_of (instance_of d) d.initial d.current m)

-- a machine of process p: its initial or its present one
abbrev pub IsThere : Drafted → ℕ → ℕ → Type 0
IsThere d p m = ((machine_at d.initial p == m) || (machine_at d.current p == m)) ≡ true

-- the draft that is kept
abbrev pub draft_in : Kept → Drafted
draft_in k = drafted k.inst.now.tables k.lists

-- what is kept belongs to one draft: the cost of its current list, what its processes use, where they are by service,
-- the topology of its instance, and how many processes have moved
pub record IsHeld (k : Kept) : Type 0 where
  pub kept : IsKeptDraft (draft_in k) k.parts
  pub loads_are : AreLoadsOf (draft_in k) k.loads
  pub members_are : AreMembersOf (draft_in k) k.members
  pub topology_is : IsTopologyOf k.topo.now k.inst.now.tables
  pub moved_are : AreMovedOfDraft (draft_in k) k.moved
  pub room : HasRoomForProcesses k.inst.now.tables k.lists

-- What an edit does to a draft, without the numbers of the other processes.
use Rattle.std.specs.Prelude.{◌≡◌, ◌≢◌, ℕ, ◌<◌, List, length, slice_index}
use Rattle.ra_model.specs.Numbers.{resource_count, machine_count, service_count, service_of, requirement_of}
use Rattle.ra_model.specs.Assignments.{machine_at}
use Rattle.ra_model.specs.Services.{in_neighbourhood}
use Rattle.ra_edit_read.specs.declared.edits.Edit.{Edit}
use Rattle.ra_edit_read.specs.declared.edits.Edit.TheVariants.{Add, Retire, Resize}
use Rattle.ra_edit.specs.Drafts.{Drafted, instance_of}
use Rattle.ra_edit.specs.Editing.{retired}
use Rattle.ra_edit.specs.OneMore.{OneMore}

-- a process of service s has come to machine m
pub record HasCome (d e : Drafted) (s m : ℕ) : Type 0 where
  pub more : OneMore d e (length d.rows)
  pub service : service_of (instance_of e) (length d.rows) ≡ s
  pub home : machine_at e.initial (length d.rows) ≡ m
  pub here : machine_at e.current (length d.rows) ≡ m
  pub service_in : s < service_count d.origin
  pub machine_in : m < machine_count d.origin

-- process p has gone
pub record HasGone (d e : Drafted) (p : ℕ) : Type 0 where
  pub there : p < length d.rows
  pub fewer : OneMore e d p

-- process p has other requirements
pub record HasOther (d e : Drafted) (p : ℕ) : Type 0 where
  pub there : p < length d.rows
  pub before : OneMore (retired d p) d p
  pub after : OneMore (retired d p) e p
  pub rows : e.rows ≡ d.rows
  pub initial : e.initial ≡ d.initial
  pub current : e.current ≡ d.current

-- process p requires this much of each resource
pub record Asks (d : Drafted) (p : ℕ) (amounts : List ℕ) : Type 0 where
  pub one_each : length amounts ≡ resource_count d.origin
  pub each : (r : ℕ) → r < resource_count d.origin
      → slice_index amounts r ≡ requirement_of (instance_of d) p r

-- an edit that gives these requirements turns one draft into another
abbrev pub IsEdited : Drafted → Edit → List ℕ → Drafted → Type 0
IsEdited d (Add s m c) amounts e = HasCome d e s.0 m.0 × Asks e (length d.rows) amounts
IsEdited d (Retire p) amounts e = HasGone d e p
IsEdited d (Resize p) amounts e = HasOther d e p × Asks e p amounts

-- no process of service s is left in a neighbourhood, and of each other service as many as before are
pub record IsLeft (d e : Drafted) (s label : ℕ) : Type 0 where
  pub origin : e.origin ≡ d.origin
  pub none : in_neighbourhood (instance_of e) e.current s label ≡ 0
  pub others : (u : ℕ) → u ≢ s
      → in_neighbourhood (instance_of e) e.current u label
      ≡ in_neighbourhood (instance_of d) d.current u label

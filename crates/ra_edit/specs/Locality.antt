-- Edits are local: if two lists are feasible before an edit, the first broken constraint after it is the first one
-- among those that the edit touches. Each law speaks of two drafts of which one has a process more, so that no number
-- of a process occurs in it.
use Rattle.std.specs.Prelude.{◌≡◌, ℕ, ◌<◌, None}
use Rattle.ra_model.specs.Numbers.{machine_count, service_count, service_of, neighbourhood_of}
use Rattle.ra_model.specs.Assignments.{machine_at}
use Rattle.ra_model.specs.Broken.{first_broken}
use Rattle.ra_edit.specs.Drafts.{Drafted, instance_of}
use Rattle.ra_edit.specs.OneMore.{OneMore}
use Rattle.ra_edit.specs.Touched.{added_breaks, retired_breaks, resized_breaks}

-- a process of service s has come to machine m, which is its initial machine too
abbrev pub AddsAreLocal : Type 0
AddsAreLocal =
    (d e : Drafted) (p s m : ℕ) → OneMore d e p
    → first_broken (instance_of d) d.initial d.current ≡ None
    → service_of (instance_of e) p ≡ s
    → machine_at e.initial p ≡ m
    → machine_at e.current p ≡ m
    → s < service_count d.origin
    → m < machine_count d.origin
    → first_broken (instance_of e) e.initial e.current
    ≡ added_breaks (instance_of e) e.initial e.current s m

-- a process of service s has left a neighbourhood
abbrev pub RetiresAreLocal : Type 0
RetiresAreLocal =
    (d e : Drafted) (p s label : ℕ) → OneMore d e p
    → first_broken (instance_of e) e.initial e.current ≡ None
    → service_of (instance_of e) p ≡ s
    → s < service_count d.origin
    → neighbourhood_of d.origin (machine_at e.current p) ≡ label
    → first_broken (instance_of d) d.initial d.current
    ≡ retired_breaks (instance_of d) d.current s label

-- a process has other requirements, and the other processes are the same
abbrev pub ResizesAreLocal : Type 0
ResizesAreLocal =
    (low d e : Drafted) (p home here : ℕ) → OneMore low d p
    → OneMore low e p
    → e.rows ≡ d.rows
    → e.initial ≡ d.initial
    → e.current ≡ d.current
    → first_broken (instance_of d) d.initial d.current ≡ None
    → machine_at d.initial p ≡ home
    → machine_at d.current p ≡ here
    → home < machine_count low.origin
    → here < machine_count low.origin
    → first_broken (instance_of e) e.initial e.current
    ≡ resized_breaks (instance_of e) e.initial e.current home here

-- Nothing so far.
use Rattle.std.proofs.Common.{◌≡◌, None}
use Rattle.ra_base.specs.Searches.{first}
use Rattle.ra_model.specs.Broken.{capacity_test}
use Rattle.ra_edit.specs.Drafts.{Drafted, instance_of}
use Rattle.ra_edit.specs.Loads.{IsUseRow}
use Rattle.ra_edit.proofs.judging.row_capacity.Given as goal

abbrev pub invariant-loop-r : goal.invariant-loop-r
invariant-loop-r l = (e : Drafted) → e.origin ≡ l.inst.tables → IsUseRow e l.m.0 l.row →
    first l.r (capacity_test (instance_of e) e.current l.m.0) ≡ None

-- Nothing so far.
use Rattle.std.proofs.Common.{◌≡◌, None}
use Rattle.ra_base.specs.Searches.{first}
use Rattle.ra_model.specs.Broken.{transient_test}
use Rattle.ra_edit.specs.Drafts.{Drafted, instance_of}
use Rattle.ra_edit.specs.Loads.{IsTransientRowOfDraft}
use Rattle.ra_edit.proofs.judging.row_transient.Given as goal

abbrev pub invariant-loop-r : goal.invariant-loop-r
invariant-loop-r l = (e : Drafted) → e.origin ≡ l.inst.tables → IsTransientRowOfDraft e l.m.0 l.row →
    first l.r (transient_test (instance_of e) e.initial e.current l.m.0) ≡ None

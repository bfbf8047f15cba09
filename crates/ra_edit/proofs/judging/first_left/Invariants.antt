-- None of the dependants so far.
use Rattle.std.proofs.Common.{◌≡◌, None}
use Rattle.ra_base.specs.Searches.{first}
use Rattle.ra_topology.specs.Lists.{service_at}
use Rattle.ra_edit.specs.Drafts.{Drafted, instance_of}
use Rattle.ra_edit.specs.Keeping.{drafted}
use Rattle.ra_edit.specs.Kinds.{IsLeft}
use Rattle.ra_edit.specs.Touched.{cause_if_left_alone}
use Rattle.ra_edit.proofs.judging.first_left.Given as goal

abbrev pub invariant-loop-k : goal.invariant-loop-k
invariant-loop-k l = (e : Drafted) → IsLeft (drafted l.inst.tables l.lists) e l.s.0 l.label →
    first l.k (λ j. cause_if_left_alone (instance_of e) e.current l.s.0 l.label (service_at l.services j)) ≡ None

-- Nothing so far.
use Rattle.std.proofs.Common.{◌≡◌, None}
use Rattle.ra_base.specs.Searches.{first}
use Rattle.ra_edit.specs.Drafts.{Drafted, instance_of}
use Rattle.ra_edit.specs.Kinds.{HasCome}
use Rattle.ra_edit.specs.Members.{AreMembersOf}
use Rattle.ra_edit.specs.Touched.{far_from}
use Rattle.ra_edit.proofs.judging.far_needs.Given as goal

abbrev pub invariant-loop-k : goal.invariant-loop-k
invariant-loop-k l = (d e : Drafted) → d.origin ≡ l.inst.tables → AreMembersOf d l.members →
    HasCome d e l.s.0 l.fn.m.0 →
    first l.k (far_from (instance_of e) e.current l.s.0 l.label) ≡ None

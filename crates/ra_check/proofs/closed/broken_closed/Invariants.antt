-- Nothing so far.
use Rattle.std.proofs.Common.{◌≡◌, None}
use Rattle.ra_base.specs.Searches.{first}
use Rattle.ra_model.specs.Broken.{closed_test}
use Rattle.ra_check.proofs.closed.broken_closed.Given as goal

abbrev pub invariant-loop-p : goal.invariant-loop-p
invariant-loop-p l = first l.p (closed_test l.inst.tables l.a0.items l.a.items) ≡ None

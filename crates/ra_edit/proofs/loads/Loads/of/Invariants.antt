-- The processes so far.
use Rattle.ra_edit.specs.Keeping.{drafted}
use Rattle.ra_edit.specs.Loads.{HasCounted}
use Rattle.ra_edit.proofs.loads.Loads.of.Given as goal

abbrev pub invariant-loop-p : goal.invariant-loop-p
invariant-loop-p l = HasCounted (drafted l.inst.tables l.lists) l.p l.loads

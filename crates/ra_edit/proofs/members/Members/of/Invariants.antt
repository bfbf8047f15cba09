-- The processes so far.
use Rattle.ra_edit.specs.Keeping.{drafted}
use Rattle.ra_edit.specs.Members.{HasMembers}
use Rattle.ra_edit.proofs.members.Members.of.Given as goal

abbrev pub invariant-loop-p : goal.invariant-loop-p
invariant-loop-p l = HasMembers (drafted l.inst.tables l.lists) l.p l.members

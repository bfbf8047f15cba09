-- Each kind of edit is followed by itself.
use Rattle.ra_edit.proofs.MemberLaws.{members_resized}
use Rattle.ra_edit.proofs.SoundLaws.{free_retire}
use Rattle.ra_edit.proofs.members.Members.follow.Goals as goal

pub add-requires-clause-service : goal.add-requires-clause-service
add-requires-clause-service c = (rw c.in-Add.is at c.requires.fits).0

pub add-requires-clause-machine : goal.add-requires-clause-machine
add-requires-clause-machine c = (rw c.in-Add.is at c.requires.fits).1

pub retire-requires-clause-process : goal.retire-requires-clause-process
retire-requires-clause-process c = (free_retire _ _ (rw c.in-Retire.is at c.requires.free)).0

pub returns-in-Resize-clause-after : goal.returns-in-Resize-clause-after
returns-in-Resize-clause-after c = rw c.in-Resize.is (λ e asked edited.
    members_resized c.requires.members edited.0)

-- One process more.
use Rattle.std.proofs.Common.{rules}
use Rattle.ra_edit.proofs.SoundLaws.{few_of}
use Rattle.ra_edit.proofs.MemberLaws.{members_come, members_few, members_stay}
use Rattle.ra_edit.proofs.members.Members.add.Goals as goal

pub come-requires-clause-few : goal.come-requires-clause-few
come-requires-clause-few c = members_few (few_of c.requires.sound).rows c.requires.members c.admit.ensures.same

pub come-requires-clause-numbered : goal.come-requires-clause-numbered
come-requires-clause-numbered c = (members_stay c.requires.members c.admit.ensures.same).numbered

pub returns-clause-after : goal.returns-clause-after
returns-clause-after c = λ e come.
    members_come (members_stay c.requires.members c.admit.ensures.same)
    come.more come.service come.here c.come.ensures.member c.come.ensures.numbered

pub returns-in_err-admit-clause-memory : goal.returns-in_err-admit-clause-memory
returns-in_err-admit-clause-memory c =
    let stays = members_stay c.requires.members c.admit.ensures.same in
    search rules

-- The process is counted where it is.
use Rattle.std.proofs.Common.{arith}
use Rattle.ra_edit.proofs.SoundLaws.{few_of, current_read}
use Rattle.ra_edit.proofs.MemberLaws.{members_few, members_next, members_stay}
use Rattle.ra_edit.proofs.VerdictLaws.{here_at, service_at}
use Rattle.ra_edit.proofs.members.Members.count.Goals as goal

pub machine_of-m-requires : goal.machine_of-m-requires
machine_of-m-requires c = current_read c.requires.sound c.requires.process

pub admit-requires : goal.admit-requires
admit-requires c = here_at c.requires.sound c.requires.process c.machine_of-m.ensures

pub come-requires-clause-machine : goal.come-requires-clause-machine
come-requires-clause-machine c = here_at c.requires.sound c.requires.process c.machine_of-m.ensures

pub come-requires-clause-service : goal.come-requires-clause-service
come-requires-clause-service c = service_at c.requires.sound c.requires.process c.service_of-s.ensures

pub come-requires-clause-numbered : goal.come-requires-clause-numbered
come-requires-clause-numbered c = (members_stay c.requires.counted c.admit.ensures.same).numbered

pub come-requires-clause-few : goal.come-requires-clause-few
come-requires-clause-few c =
    members_few
    (omega (arith, (few_of c.requires.sound).rows, c.requires.process)) c.requires.counted c.admit.ensures.same

pub returns : goal.returns
returns c =
    members_next (members_stay c.requires.counted c.admit.ensures.same)
    c.service_of-s.ensures c.machine_of-m.ensures c.come.ensures.member c.come.ensures.numbered

-- One process less.
use Rattle.ra_edit.proofs.SoundLaws.{current_read}
use Rattle.ra_edit.proofs.MemberLaws.{members_go, member_there}
use Rattle.ra_edit.proofs.VerdictLaws.{has_gone, here_at, service_at}
use Rattle.ra_edit.proofs.members.Members.retire.Goals as goal

pub machine_of-m-requires : goal.machine_of-m-requires
machine_of-m-requires c = current_read c.requires.sound c.requires.process

pub go-requires-clause-machine : goal.go-requires-clause-machine
go-requires-clause-machine c = here_at c.requires.sound c.requires.process c.machine_of-m.ensures

pub go-requires-clause-service : goal.go-requires-clause-service
go-requires-clause-service c = service_at c.requires.sound c.requires.process c.service_of-s.ensures

pub go-requires-clause-numbered : goal.go-requires-clause-numbered
go-requires-clause-numbered c = c.requires.members.numbered

pub go-requires-clause-there : goal.go-requires-clause-there
go-requires-clause-there c = λ spot there.
    member_there spot c.requires.members
    (has_gone c.args.p.0 c.requires.sound c.requires.process).fewer c.service_of-s.ensures c.machine_of-m.ensures there

pub returns : goal.returns
returns c = λ e gone. members_go
    c.requires.members gone.fewer
    c.service_of-s.ensures c.machine_of-m.ensures c.go.ensures.member c.go.ensures.numbered

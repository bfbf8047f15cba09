-- Nothing is counted at first, and then each process.
use Rattle.ra_edit.proofs.MemberLaws.{members_none}
use Rattle.ra_edit.proofs.members.Members.of.Goals as goal

pub loop-p-init : goal.loop-p-init
loop-p-init c = members_none c.new.ensures c.new-2.ensures c.in_ok-make.ensures.empty c.in_ok-make.ensures.numbered

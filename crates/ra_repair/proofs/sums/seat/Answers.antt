-- Each process of a service has a machine.
use Rattle.std.proofs.Common.{arith}
use Rattle.ra_model.specs.Members.{member_at}
use Rattle.ra_model.proofs.MemberLemmas.{member_within}
use Rattle.ra_repair.specs.Members.{seat_of}
use Rattle.ra_repair.proofs.SumLemmas.{seat_there}
use Rattle.ra_repair.proofs.sums.seat.Goals as goal

pub machine_of-requires : goal.machine_of-requires
unfolding member_at
machine_of-requires c =
    omega (
      arith,
      c.requires.stands.fits.one_each,
      (member_within c.args.inst.now.tables c.args.s.0 c.args.members.now c.args.k c.requires.members
          c.requires.member).0,
    )

pub returns-clause-value : goal.returns-clause-value
unfolding seat_of member_at
returns-clause-value c = c.machine_of.ensures

pub returns-clause-there : goal.returns-clause-there
unfolding seat_of member_at
returns-clause-there c =
    omega (
      arith,
      c.machine_of.ensures,
      seat_there c.args.inst.now.tables c.args.kept.now.assignment.items c.args.s.0
          c.args.k c.args.members.now c.requires.stands.fits c.requires.members c.requires.member,
    )

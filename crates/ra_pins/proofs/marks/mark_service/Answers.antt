-- The marks after the stamp, and the case that no process of the service is flagged.
use Rattle.std.proofs.Common.{◌+◌, arith}
use Rattle.ra_pins.proofs.MarkLemmas.{seated, marks_after, stamped_after, stamped_free, flag_read}
use Rattle.ra_pins.proofs.marks.mark_service.Goals as goal

pub stamp-requires : goal.stamp-requires
stamp-requires c = record {
  seated = rw c.of.ensures
      (seated c.args.inst.now.tables c.args.a0.now.items c.args.flags.now.items c.args.members.now c.args.s.0 _
      c.requires.fits c.requires.members c.requires.service c.requires.flags c.requires.marked.one_each);
}

pub returns-then-get-clause-marked : goal.returns-then-get-clause-marked
returns-then-get-clause-marked c =
    marks_after c.args.inst.now.tables c.args.a0.now.items c.args.flags.now.items c.args.members.now c.args.s.0
    (c.args.s.0 + 1) c.args.marks.now.items c.stamp.new.marks.items c.requires.members c.requires.service
    (omega arith) c.requires.marked (rw (← c.of.ensures) c.stamp.ensures)

pub returns-then-get-clause-stamped : goal.returns-then-get-clause-stamped
returns-then-get-clause-stamped c =
    stamped_after c.args.inst.now.tables c.args.a0.now.items c.args.flags.now.items c.args.members.now c.args.s.0
    (c.args.s.0 + 1) c.args.marks.now.items c.stamp.new.marks.items c.requires.members c.requires.service
    (omega arith) c.requires.marked (rw (← c.of.ensures) c.stamp.ensures)

pub returns-else-get-clause-stamped : goal.returns-else-get-clause-stamped
returns-else-get-clause-stamped c =
    stamped_free c.args.inst.now.tables c.args.a0.now.items c.args.flags.now.items c.args.touched.now.items c.args.s.0
    c.args.marks.now.items c.get.result c.requires.touched
    (flag_read c.args.touched.now.items c.args.s.0 c.get.result
    (omega (arith, c.requires.touched.one_each, c.requires.service)) c.get.ensures) c.if-get.false
    c.requires.marked

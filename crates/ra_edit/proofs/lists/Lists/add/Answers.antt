use Rattle.std.proofs.Common.{arith}
use Rattle.ra_edit.specs.Keeping.{drafted}
use Rattle.ra_edit.proofs.SoundLaws.{few_of}
use Rattle.ra_edit.proofs.ListLaws.{row_fits}
use Rattle.ra_edit.proofs.ListsLaws.{added_is}
use Rattle.ra_edit.proofs.lists.Lists.add.Goals as goal

pub push-requires : goal.push-requires
push-requires c = omega (arith, c.requires.few, c.requires.room.rows)

pub extend_from_slice-requires : goal.extend_from_slice-requires
extend_from_slice-requires c =
    row_fits _ _ _ _ _ c.requires.few (few_of c.requires.sound).table c.requires.width c.requires.room.requirements

pub push-requires-2 : goal.push-requires-2
push-requires-2 c = omega (arith, (few_of c.requires.sound).initial, c.requires.few, c.requires.room.initial)

pub push-requires-3 : goal.push-requires-3
push-requires-3 c = omega (arith, (few_of c.requires.sound).current, c.requires.few, c.requires.room.current)

pub returns-clause-lists : goal.returns-clause-lists
returns-clause-lists c = added_is (drafted c.args.inst.now.tables c.args.self.now) c.args.row c.args.machine
    c.args.requirements.now c.push.ensures.items c.extend_from_slice.ensures.items c.push-2.ensures.items
    c.push-3.ensures.items

use Rattle.std.proofs.Common.{◌*◌}
use Rattle.ra_edit.specs.Keeping.{drafted}
use Rattle.ra_edit.proofs.SoundLaws.{few_of}
use Rattle.ra_edit.proofs.ListLaws.{part_within}
use Rattle.ra_edit.proofs.ListsLaws.{resized_is}
use Rattle.ra_edit.proofs.lists.Lists.resize.Goals as goal

pub write-requires : goal.write-requires
write-requires c = part_within _ _ c.args.process c.resources.result _ _ c.resources.ensures
    (few_of c.requires.sound).table c.requires.process c.requires.width

pub returns-clause-lists : goal.returns-clause-lists
returns-clause-lists c = resized_is (drafted c.args.inst.now.tables c.args.self.now) c.args.process
    (c.args.process * c.resources.result) c.args.requirements.now _ (cc (c.resources.ensures))
    c.requires.width c.write.ensures.items

use Rattle.ra_edit.specs.Keeping.{drafted, IsKeptDraft}
use Rattle.ra_edit.proofs.DraftLaws.{made_kept}
use Rattle.ra_edit.proofs.MovedLaws.{made_few}
use Rattle.ra_edit.proofs.draft.Draft.make.Goals as goal
use Rattle.ra_edit.proofs.draft.Draft.make.Goals.{In_ok-lists}

kept : (c : In_ok-lists) → IsKeptDraft (drafted c.args.inst.now.tables c.in_ok-lists.lists) c.args.start
kept c = made_kept c.in_ok-lists.ensures.lists c.args.inst.now.well_formed c.requires.a0_fits c.requires.fits
    c.requires.unbroken c.requires.parts

pub of-requires-2 : goal.of-requires-2
of-requires-2 c = (kept (goal.at.of-requires-2 c).In_ok-lists).sound

pub of-requires-3 : goal.of-requires-3
of-requires-3 c = (kept (goal.at.of-requires-3 c).In_ok-lists).sound

pub moved_counts-requires : goal.moved_counts-requires
moved_counts-requires c = record {
  sound = (kept (goal.at.moved_counts-requires c).In_ok-lists).sound;
  few = made_few c.args.inst.now.tables c.args.a0.now.items c.args.a.now.items c.in_ok-lists.ensures.lists;
}

pub invariant_of-result : goal.invariant_of-result
invariant_of-result c = record {
  kept = kept (goal.at.invariant_of-result c).In_ok-lists;
  loads_are = c.in_ok-loads.ensures;
  members_are = c.in_ok-members.ensures;
  topology_is = c.requires.topology;
  moved_are = c.in_ok-moved.ensures;
  room = c.in_ok-lists.ensures.room;
}

use Rattle.std.proofs.Common.{arith}
use Rattle.std.proofs.lemmas.Grind.{common_steps}
use Rattle.std.proofs.Common.{◌≡◌, length, refl, ap, sym, ◌∙◌}
use Rattle.ra_edit_read.specs.EditLists.{edit_at, row_of}
use Rattle.ra_edit.specs.declared.replies.EditReply.TheVariants.{Done, Broken}
use Rattle.ra_edit.specs.declared.verdicts.Judged.TheVariants.{Fine}
use Rattle.std.proofs.Common.{None}
use Rattle.ra_edit.specs.Drafts.{Drafted}
use Rattle.ra_edit.specs.Editing.{edited}
use Rattle.ra_edit.specs.Kinds.{IsEdited}
use Rattle.ra_edit.specs.Replies.{barred, edit_answer, after_edit}
use Rattle.ra_edit.specs.Keeping.{drafted, IsJudgedDraft}
use Rattle.ra_edit.specs.Loads.{draft_in}
use Rattle.ra_edit.proofs.DraftLaws.{answered_barred, kept_barred, broken_edit, done_edit, next_sound, next_edited}
use Rattle.ra_edit.proofs.DraftLaws.{next_fits, next_width}
use Rattle.ra_edit.proofs.draft.Draft.edit.Goals as goal
use Rattle.ra_edit.proofs.draft.Draft.edit.Goals.{In-Refused}

pub returns-in-Some-clause-reply : goal.returns-in-Some-clause-reply
returns-in-Some-clause-reply c =
    rw c.self.view_is at (answered_barred (draft_in c.self.inside.kept) c.args.edits.now c.args.i c.in-Some.reply (cc
    (c.edit-edit.ensures, c.barred.ensures, c.in-Some.is)))

pub returns-in-Some-clause-after : goal.returns-in-Some-clause-after
returns-in-Some-clause-after c =
    rw c.self.view_is at (kept_barred (draft_in c.self.inside.kept) c.args.edits.now c.args.i c.in-Some.reply (cc
    (c.edit-edit.ensures, c.barred.ensures, c.in-Some.is)))

pub judge-requires : goal.judge-requires
judge-requires c = grind (arith, common_steps, next_fits, next_width)

-- the edit breaks a constraint: what is answered, and what is left
refused : (c : In-Refused) → let d = draft_in c.self.inside.kept in
    (Broken c.in-Refused.cause ≡ edit_answer d c.args.edits.now c.args.i) × (d ≡ after_edit d c.args.edits.now c.args.i)
refused c =
    let free = ap (barred _) (sym c.edit-edit.ensures) ∙ sym c.barred.ensures ∙ c.in_default.is in
    let asked = c.requirements_of-asked.ensures in
    broken_edit (draft_in c.self.inside.kept) c.args.edits.now c.args.i c.in-Refused.cause free
    (rw c.in-Refused.is at (c.in_ok-cause.ensures _ (next_edited _ c.args.i c.self.view_is c.self.invariant.kept.sound
    c.requires.fits c.requires.edit c.edit-edit.ensures asked.row free asked.one_each refl)))

pub returns-in-Refused-clause-reply : goal.returns-in-Refused-clause-reply
returns-in-Refused-clause-reply c = rw c.self.view_is at (refused c).0

pub returns-in-Refused-clause-after : goal.returns-in-Refused-clause-after
returns-in-Refused-clause-after c = rw c.self.view_is at (refused c).1

pub follow-requires : goal.follow-requires
follow-requires c = grind (arith, common_steps, next_fits)

pub follow-requires-in-Fine : goal.follow-requires-in-Fine
follow-requires-in-Fine c = grind (arith, common_steps, next_fits, next_width)

pub follow_moved-requires : goal.follow_moved-requires
follow_moved-requires c = grind (arith, common_steps)

pub edit-requires : goal.edit-requires
edit-requires c = grind (arith, common_steps, next_width)

-- the edit is done: the lists that are kept then are those of what it makes
abbrev next : goal.After-parts-in-Fine-1 → Drafted
next c = drafted c.self.inside.kept.inst.now.tables c.edit.new.self

free : (c : goal.After-parts-in-Fine-1) →
    barred (length c.self.inside.kept.lists.rows.items) (edit_at c.args.edits.now c.args.i) ≡ None
free c = ap (barred _) (sym c.edit-edit.ensures) ∙ sym c.barred.ensures ∙ c.in_default.is

next_is : (c : goal.After-parts-in-Fine-1) → next c ≡ edited (draft_in c.self.inside.kept)
    (edit_at c.args.edits.now c.args.i) (row_of c.args.edits.now.width c.args.edits.now.requirements c.args.i)
next_is c = cc (c.edit.ensures.lists, c.edit-edit.ensures, c.requirements_of-asked.ensures.row)

made : (c : goal.After-parts-in-Fine-1) →
    IsEdited (draft_in c.self.inside.kept) c.edit-edit.result c.requirements_of-asked.result.now (next c)
made c = next_edited _ c.args.i c.self.view_is c.self.invariant.kept.sound c.requires.fits c.requires.edit
    c.edit-edit.ensures c.requirements_of-asked.ensures.row (free c)
    c.requirements_of-asked.ensures.one_each (next_is c)

found : (c : goal.After-parts-in-Fine-1) → IsJudgedDraft (next c) (Fine c.in-Fine.parts)
found c = rw c.in-Fine.is at (c.in_ok-cause.ensures _ (made c))

done : (c : goal.After-parts-in-Fine-1) → let d = draft_in c.self.inside.kept in
    (Done c.in-Fine.parts.total ≡ edit_answer d c.args.edits.now c.args.i)
    × (next c ≡ after_edit d c.args.edits.now c.args.i)
done c = done_edit (draft_in c.self.inside.kept) c.args.edits.now c.args.i (free c) (next_is c) (found c).0 (found c).1

pub invariant_of-self-in-Fine : goal.invariant_of-self-in-Fine
invariant_of-self-in-Fine c = record {
  kept = record {
    sound = next_sound c.args.i c.self.view_is c.self.invariant.kept.sound c.requires.fits c.requires.edit (free c)
        c.requirements_of-asked.ensures.row c.requirements_of-asked.ensures.one_each (next_is c);
    unbroken = (found c).0;
    parts_are = (found c).1;
  };
  loads_are = c.follow-in-Fine.ensures _ (made c);
  members_are = c.in_ok-follow-in-Fine.ensures.after _ c.requirements_of-asked.result.now (made c);
  topology_is = c.self.invariant.topology_is;
  moved_are = c.follow_moved.ensures _ c.requirements_of-asked.result.now (made c);
  room = c.edit.ensures.room;
}

pub returns-in_ok-follow-in-Fine-clause-reply : goal.returns-in_ok-follow-in-Fine-clause-reply
returns-in_ok-follow-in-Fine-clause-reply c = rw c.self.view_is at (done c).0

pub returns-in_ok-follow-in-Fine-clause-after : goal.returns-in_ok-follow-in-Fine-clause-after
returns-in_ok-follow-in-Fine-clause-after c = rw c.self.view_is at (done c).1

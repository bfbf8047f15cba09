-- The first edits were answered.
use Rattle.std.proofs.Common.{◌≡◌, length}
use Rattle.ra_edit.specs.Replies.{after_edits, replies_to}
use Rattle.ra_edit.proofs.draft.Draft.edit_all.Given as goal

abbrev pub invariant-loop-i : goal.invariant-loop-i
invariant-loop-i l = record {
  replies_are : l.replies.items ≡ replies_to l.initial.self l.edits l.i;
  draft_is : l.self ≡ after_edits l.initial.self l.edits l.i;
  size : length l.replies.items ≡ l.i;
  room : l.replies.room ≡ length l.edits.edits;
  origin : l.self.origin ≡ l.initial.self.origin;
}

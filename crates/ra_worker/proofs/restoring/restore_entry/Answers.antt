use Rattle.std.proofs.Common.{◌∙◌}
use Rattle.ra_journal.specs.Journals.{opening_in}
use Rattle.ra_worker.proofs.FollowingLemmas.{done_moves, entry_judged, after_done, after_refused, next_stated}
use Rattle.ra_worker.proofs.restoring.restore_entry.Goals as goal

pub apply-requires-clause-distinct : goal.apply-requires-clause-distinct
apply-requires-clause-distinct c =
    let journal = c.args.journal.now in
    let o = opening_in journal in
    let sound = c.entry-entry.ensures.sound in
    let judged = entry_judged o journal.entries c.args.at c.entry-entry.result sound.start.limits sound.start.fits
    sound.legal c.requires.within c.entry-entry.ensures.value in
    (done_moves _ _ c.in-Done.cost _ judged c.in-Done.is).distinct

pub apply-requires-clause-at_from : goal.apply-requires-clause-at_from
apply-requires-clause-at_from c =
    let journal = c.args.journal.now in
    let o = opening_in journal in
    let sound = c.entry-entry.ensures.sound in
    let judged = entry_judged o journal.entries c.args.at c.entry-entry.result sound.start.limits sound.start.fits
    sound.legal c.requires.within c.entry-entry.ensures.value in
    rw c.requires.here (done_moves _ _ c.in-Done.cost _ judged c.in-Done.is).stands

pub returns-in-Done-clause-items : goal.returns-in-Done-clause-items
returns-in-Done-clause-items c = next_stated _ _ _ _ c.args.at c.entry-entry.result c.requires.here
    c.entry-entry.ensures.value (c.apply.ensures.in_turn ∙ after_done _ _ c.in-Done.cost _ c.in-Done.is)

pub returns-in-Refused-clause-items : goal.returns-in-Refused-clause-items
returns-in-Refused-clause-items c = next_stated _ _ _ _ c.args.at c.entry-entry.result c.requires.here
    c.entry-entry.ensures.value (after_refused _ _ c.in-Refused.cause _ c.in-Refused.is)

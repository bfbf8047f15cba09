use Rattle.ra_model.proofs.BrokenLemmas.{unbroken_from_feasible}
use Rattle.ra_jobs.proofs.EditLemmas.{outcome_is}
use Rattle.ra_jobs.proofs.edit.outcome_over.Goals as goal

pub make-requires-clause-unbroken : goal.make-requires-clause-unbroken
make-requires-clause-unbroken c = unbroken_from_feasible c.args.inst.now.tables c.args.lists.now.initial.items
    c.args.lists.now.changed.items c.requires.judged.changed

pub returns : goal.returns
returns c = outcome_is c.args.inst.now.tables c.args.lists.now.initial.items c.args.lists.now.changed.items
    c.args.edits.now c.in_ok-draft.draft c.edit_all.new.self _ c.requires.judged.initial c.requires.judged.changed
    c.in_ok-draft.ensures c.in_ok-replies.ensures.after
    c.edit_all.ensures.origin c.leave.ensures.lists c.in_ok-replies.ensures.replies c.leave.ensures.sound
    c.leave.ensures.small c.leave.ensures.feasible c.parts-parts.ensures.parts

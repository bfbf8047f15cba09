use Rattle.std.proofs.lemmas.Grind.{common_steps}
use Rattle.std.proofs.Common.{ap, ◌∙◌, arith, length-append}
use Rattle.ra_edit.specs.Replies.{after_edits, replies_to}
use Rattle.ra_edit.proofs.RunLaws.{none_after, none_replied, one_after, one_replied}
use Rattle.ra_edit.proofs.draft.Draft.edit_all.Goals as goal

pub loop-i-preserved : goal.loop-i-preserved
loop-i-preserved c = grind (arith, common_steps, one_replied, one_after, length-append)

pub loop-i-init : goal.loop-i-init
loop-i-init c = grind (arith, common_steps, none_replied, none_after)

pub returns-clause-replies : goal.returns-clause-replies
returns-clause-replies c = c.loop-i.invariant.replies_are
    ∙ ap (replies_to c.args.self.now c.args.edits.now)
    (omega (arith, c.loop-i-test.false, c.loop-i.auto.i-end, c.len-i-end.ensures))

pub returns-clause-after : goal.returns-clause-after
returns-clause-after c = c.loop-i.invariant.draft_is
    ∙ ap (after_edits c.args.self.now c.args.edits.now)
    (omega (arith, c.loop-i-test.false, c.loop-i.auto.i-end, c.len-i-end.ensures))

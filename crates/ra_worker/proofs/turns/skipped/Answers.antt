use Rattle.std.proofs.Common.{◌<◌, length, ap, ◌∙◌, subst}
use Rattle.ra_journal.specs.Entries.{entries_of, worker_count, budget}
use Rattle.ra_journal.specs.Openings.{Opening}
use Rattle.ra_worker.proofs.CoreTurnLemmas.{skipped_used, skipped_unused}
use Rattle.ra_worker.proofs.turns.skipped.Goals as goal

pub made_by-made-requires : goal.made_by-made-requires
made_by-made-requires c =
    subst (λ (o : Opening). c.worker.result < worker_count o.lots) c.requires.at.opening c.worker.ensures.exists

pub returns-then-budget-made : goal.returns-then-budget-made
returns-then-budget-made c =
    let h = c.args.journal.now.entries in
    let r = c.args.replica.now in
    skipped_used c.args.journal.now.lots h r.worker r.place c.made_by-made.result c.budget-budget.result
    c.next-next.result
    (c.made_by-made.ensures ∙ ap (entries_of h (length h)) c.worker.ensures.value)
    (c.budget-budget.ensures ∙ ap (λ (o : Opening). budget o.lots r.worker) c.requires.at.opening)
    (c.next-next.ensures ∙ c.requires.at.number)
    c.if-budget-made.true

pub returns-else-budget-made : goal.returns-else-budget-made
returns-else-budget-made c =
    let h = c.args.journal.now.entries in
    let r = c.args.replica.now in
    skipped_unused c.args.journal.now.lots h r.worker r.place c.made_by-made.result c.budget-budget.result
    c.next-next.result
    (c.made_by-made.ensures ∙ ap (entries_of h (length h)) c.worker.ensures.value)
    (c.budget-budget.ensures ∙ ap (λ (o : Opening). budget o.lots r.worker) c.requires.at.opening)
    (c.next-next.ensures ∙ c.requires.at.number)
    c.if-budget-made.false

use Rattle.std.proofs.Common.{◌∙◌}
use Rattle.ra_journal.proofs.EndLemmas.{planned_within}
use Rattle.ra_journal.proofs.NewerLemmas.{newer_same, newer_read_same}
use Rattle.ra_journal.proofs.journal.Journal.first_newer.Goals as goal

pub first_newer_read-requires-clause-within : goal.first_newer_read-requires-clause-within
first_newer_read-requires-clause-within c =
    planned_within _ _ c.args.worker c.args.plan.now
    c.self.invariant.start c.self.invariant.kept.legal (rw (← c.self.view_is) at c.requires.commit)

pub first_newer-requires-clause-within : goal.first_newer-requires-clause-within
first_newer-requires-clause-within c =
    planned_within _ _ c.args.worker c.args.plan.now
    c.self.invariant.start c.self.invariant.kept.legal (rw (← c.self.view_is) at c.requires.commit)

pub returns-in-Some : goal.returns-in-Some
returns-in-Some c =
    let plan = c.args.plan.now in
    let held = rw c.in-Some.is at c.requires.held in
    rw (← c.self.view_is) (c.first_newer_read.ensures
    ∙ newer_read_same _ _ plan.q plan.mv.steps _ c.self.invariant.kept.versions (rw (← c.self.view_is) at held.known))

pub returns-in-None : goal.returns-in-None
returns-in-None c =
    let plan = c.args.plan.now in
    rw (← c.self.view_is)
    (c.first_newer.ensures ∙ newer_same _ _ plan.q plan.mv.steps _ c.self.invariant.kept.versions)

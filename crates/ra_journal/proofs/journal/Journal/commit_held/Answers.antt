use Rattle.ra_journal.proofs.EndLemmas.{planned_within}
use Rattle.ra_journal.proofs.journal.Journal.commit_held.Goals as goal

pub writes-guards-requires : goal.writes-guards-requires
writes-guards-requires c =
    planned_within _ _ c.args.worker c.args.plan.now
    c.self.invariant.start c.self.invariant.kept.legal (rw (← c.self.view_is) at c.requires.commit)

pub commit_with-requires-clause-held : goal.commit_with-requires-clause-held
commit_with-requires-clause-held c = record {
  listed = rw (← c.self.view_is) c.writes-guards.ensures;
  known = c.requires.held;
}

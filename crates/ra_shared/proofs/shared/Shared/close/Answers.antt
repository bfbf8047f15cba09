use Rattle.std.proofs.Common.{sym, subst, All}
use Rattle.ra_journal.specs.Journals.{IsJournal}
use Rattle.ra_turn.specs.Passes.{IsPartOf}
use Rattle.ra_shared.proofs.shared.Shared.close.Goals as goal

pub returns-clause-passes : goal.returns-clause-passes
returns-clause-passes c = subst (λ j. All (IsPartOf j.entries) c.args.passes.items)
    (sym c.into_inner.ensures) c.close-journal.ensures.passes

pub returns-clause-sound : goal.returns-clause-sound
returns-clause-sound c = subst IsJournal (sym c.into_inner.ensures) c.close-journal.result.sound

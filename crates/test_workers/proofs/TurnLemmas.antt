-- Replicas that are at a state of every journal of their instance, initial assignment and lots are at one of this.
use Rattle.std.proofs.Common.{◌≡◌, List, sym, subst}
use Rattle.ra_journal.specs.declared.entries.Entry.{Entry}
use Rattle.ra_journal.specs.Journals.{History, opening_in}
use Rattle.ra_journal.specs.Openings.{Opening}
use Rattle.ra_worker.specs.Replicas.{Progress}
use Rattle.ra_worker.specs.AllReplicas.{AreAt}

pub are_at_journal : (o : Opening) (journal : History) (replicas : List Progress) → opening_in journal ≡ o →
    ((h : List Entry) → AreAt o h replicas) → AreAt (opening_in journal) journal.entries replicas
are_at_journal o journal replicas opened at =
    subst (λ (p : Opening). AreAt p journal.entries replicas) (sym opened) (at journal.entries)

-- Where the best state of a run is found.
use Rattle.std.proofs.Common.{◌≤◌, List, length}
use Rattle.ra_journal.specs.declared.entries.Entry.{Entry}
use Rattle.ra_journal.specs.Best.{best_of}
use Rattle.ra_journal.specs.Openings.{Opening}
use Rattle.ra_journal.proofs.BestLemmas.{best_within}

-- the best place is one of the journal
pub within_journal : (o : Opening) (h : List Entry) → best_of o h ≤ length h
unfolding best_of
within_journal o h = best_within o h (length h)

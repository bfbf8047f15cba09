-- A book without entries keeps what it is to keep.
use Rattle.std.proofs.Common.{◌≡◌, ℕ, eqb, List, [], replicate, arith}
use Rattle.std.proofs.lemmas.List.{length-replicate, get_or-replicate}
use Rattle.ra_base.proofs.Counts.{count_none}
use Rattle.ra_cells.proofs.CellLemmas.{moved_none}
use Rattle.ra_model.specs.Costs.{objective}
use Rattle.ra_model.specs.Numbers.{machine_count, service_count, process_count}
use Rattle.ra_guards.specs.Kept.{AreZero}
use Rattle.ra_journal.specs.declared.book.Book.{Book}
use Rattle.ra_journal.specs.declared.entries.Entry.{Entry}
use Rattle.ra_journal.specs.Best.{best_of}
use Rattle.ra_journal.specs.Entries.{entry_at, entries_of, proposal_count}
use Rattle.ra_journal.specs.Keeping.{IsKept}
use Rattle.ra_journal.specs.States.{state, kept_cost, cost_of_state}
use Rattle.ra_journal.specs.Openings.{Opening}
use Rattle.ra_journal.proofs.AddedLemmas.{version_few}
use Rattle.ra_journal.proofs.BestLemmas.{best_start}
use Rattle.ra_journal.proofs.RecordingLemmas.{worker_below}

none_made : (h : List Entry) (w : ℕ) → entries_of h 0 w ≡ 0
unfolding entries_of
none_made h w = count_none (λ j. eqb (entry_at h j).worker w)

pub kept_start : (o : Opening) (book : Book) → book.entries.items ≡ [] → book.entries.room ≡ proposal_count o.lots →
    AreZero (machine_count o.tables) (service_count o.tables) book.versions →
    book.greatest.counts ≡ replicate (service_count o.tables) 0 → book.greatest.limit ≡ process_count o.tables →
    book.made ≡ replicate 16 0 → book.kept ≡ objective o.tables o.start o.start → book.best_at ≡ 0 →
    book.best_cost ≡ objective o.tables o.start o.start → book.done ≡ 0 →
    IsKept o book
unfolding state kept_cost cost_of_state best_of
kept_start o book entries room zero_versions counts limit made kept best_at best_cost done = grind (arith, version_few, length-replicate, get_or-replicate, moved_none, worker_below, none_made, best_start)

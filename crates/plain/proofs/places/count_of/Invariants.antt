-- The count so far.
use Rattle.std.proofs.Common.{◌≡◌, ◌==◌}
use Rattle.ra_base.specs.Sums.{count}
use Rattle.ra_journal.specs.Entries.{entry_at}
use Rattle.plain.proofs.places.count_of.Given as goal

abbrev pub invariant-loop-j : goal.invariant-loop-j
invariant-loop-j l = l.count ≡ count l.j (λ j. (entry_at l.entries j).worker == l.worker)

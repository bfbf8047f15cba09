use Rattle.std.proofs.Common.{◌≡◌}
use Rattle.ra_base.specs.Sums.{total}
use Rattle.ra_journal.specs.Entries.{budget}
use Rattle.ra_journal.proofs.journal.proposals.Given as goal

abbrev pub invariant-loop-w : goal.invariant-loop-w
invariant-loop-w l = l.number ≡ total l.w (budget l.lots)

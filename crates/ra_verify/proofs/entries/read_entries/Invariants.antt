-- The lines so far are those of the entries that were taken in.
use Rattle.std.proofs.Common.{◌≡◌, ℕ, ◌+◌, ◌-◌, ◌*◌, ◌≤◌, List, length, IfSome}
use Rattle.ra_token.specs.Reading.{Reads}
use Rattle.ra_journal.specs.Entries.{proposal_count}
use Rattle.ra_journal.specs.Journals.{opening_in}
use Rattle.ra_verify.specs.Checking.{checker_entries, IsOpen, IsSameRun}
use Rattle.ra_verify.specs.Reading.{AreRead}
use Rattle.ra_verify.proofs.entries.read_entries.Given as goal

abbrev pub invariant-loop : goal.invariant-loop
invariant-loop g l = record {
  reads : Reads (g.F.Files.held l.files l.reader.name) l.reader;
  name : l.reader.name ≡ l.fn.reader.name;
  kept : (other : List ℕ) → g.F.Files.held l.files other ≡ g.F.Files.held l.fn.files other;
  never_fell : (other : List ℕ) → g.F.Files.faults l.fn.files other ≤ g.F.Files.faults l.files other;
  near : l.reader.place ≤ 600586 + 293 * length (checker_entries l.checker);
  room : l.line.room ≡ 293;
  ready : IsOpen l.checker;
  same : IsSameRun l.fn.checker l.checker;
  read : IfSome (g.F.Files.held l.fn.files l.fn.reader.name)
      (λ bytes. AreRead (opening_in l.checker.journal)
      bytes l.reader.place (checker_entries l.checker));
}

abbrev pub decreases-loop : goal.decreases-loop
decreases-loop g l = proposal_count l.checker.journal.lots - length (checker_entries l.checker)

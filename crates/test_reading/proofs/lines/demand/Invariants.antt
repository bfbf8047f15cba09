-- The reader is in its file, and not past the lines that were asked for.
use Rattle.std.proofs.Common.{◌*◌, ◌≤◌}
use Rattle.ra_token.specs.Reading.{Reads}
use Rattle.test_reading.proofs.lines.demand.Given as goal

abbrev pub invariant-loop-want : goal.invariant-loop-want
invariant-loop-want g l = record {
  reads : Reads (g.F.Files.held l.files l.reader.name) l.reader;
  near : l.reader.place ≤ l.want-index * 8;
}

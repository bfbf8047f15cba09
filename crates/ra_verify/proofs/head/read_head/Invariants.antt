-- The lines so far are the head's, and none of them is over long.
use Rattle.std.proofs.Common.{◌≡◌, ℕ, ◌+◌, ◌*◌, ◌≤◌, List, length, IfSome}
use Rattle.ra_token.specs.Reading.{Reads}
use Rattle.ra_verify.proofs.HeadLemmas.{IsHeadSoFar}
use Rattle.ra_verify.proofs.head.read_head.Given as goal

abbrev pub invariant-loop-n : goal.invariant-loop-n
invariant-loop-n g l = record {
  reads : Reads (g.F.Files.held l.files l.reader.name) l.reader;
  name : l.reader.name ≡ l.fn.reader.name;
  kept : (other : List ℕ) → g.F.Files.held l.files other ≡ g.F.Files.held l.fn.files other;
  never_fell : (other : List ℕ) → g.F.Files.faults l.fn.files other ≤ g.F.Files.faults l.files other;
  place : l.reader.place ≡ length l.head.items;
  early : l.n ≤ 8 → length l.head.items ≤ 65 * l.n;
  late : length l.head.items ≤ 599936 + 65 * l.n;
  room : l.head.room ≡ 600586;
  so_far : IfSome (g.F.Files.held l.fn.files l.fn.reader.name)
      (λ bytes. IsHeadSoFar bytes l.reader.place l.n l.head.items);
}

-- As many zeros as rounds.
use Rattle.std.proofs.Common.{◌≡◌, ◌++◌, replicate}
use Rattle.ra_edit_read.proofs.reading.push_zeros.Given as goal

abbrev pub invariant-loop-k : goal.invariant-loop-k
invariant-loop-k l = record {
  items : l.list.items ≡ l.initial.list.items ++ replicate l.k 0;
  room : l.list.room ≡ l.initial.list.room;
}

use Rattle.std.proofs.Common.{length, ◌+◌, ◌-◌, ◌≡◌}
use Rattle.ra_words.proofs.PieceLaws.{IsPut}
use Rattle.ra_words.proofs.pieces.put_numbers.Given as goal

abbrev pub invariant-loop-start : goal.invariant-loop-start
invariant-loop-start l = record { put : IsPut l.text l.start l.list.items; room : l.list.room ≡ l.initial.list.room }

abbrev pub decreases-loop-start : goal.decreases-loop-start
decreases-loop-start l = length l.text + 1 - l.start

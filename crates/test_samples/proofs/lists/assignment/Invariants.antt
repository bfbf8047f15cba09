-- As many machines so far, in the room that was made.
use Rattle.std.proofs.Common.{◌≡◌, length}
use Rattle.test_samples.proofs.lists.assignment.Given as goal

abbrev pub invariant-loop-m : goal.invariant-loop-m
invariant-loop-m l = record { count : length l.list.items ≡ l.m-index; room : l.list.room ≡ length l.machines }

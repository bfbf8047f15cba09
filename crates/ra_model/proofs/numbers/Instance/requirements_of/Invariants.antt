-- A step for each number so far.
use Rattle.std.proofs.Common.{◌≡◌, ◌+◌}
use Rattle.ra_model.proofs.numbers.Instance.requirements_of.Given as goal

abbrev pub invariant-loop : goal.invariant-loop
invariant-loop g l = l.steps ≡ l.initial.steps + l.counter

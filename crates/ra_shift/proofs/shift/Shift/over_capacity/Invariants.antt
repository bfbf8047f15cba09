-- There is room for the resources so far.
use Rattle.std.proofs.Common.{ℕ, ◌+◌, ◌<◌, ◌≤◌, slice_index}
use Rattle.ra_model.specs.Numbers.{capacity_of}
use Rattle.ra_shift.proofs.shift.Shift.over_capacity.Given as goal

abbrev pub invariant-loop-r : goal.invariant-loop-r
invariant-loop-r l = (k : ℕ) → k < l.r → slice_index l.row k + slice_index l.self.required.now k ≤
    capacity_of l.self.world.now.tables l.to.0 k

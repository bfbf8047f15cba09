-- There is room for the transient resources so far.
use Rattle.std.proofs.Common.{◌≡◌, ℕ, ◌+◌, ◌<◌, ◌≤◌, true, slice_index}
use Rattle.ra_model.specs.Numbers.{transient_at, capacity_of}
use Rattle.ra_shift.proofs.shift.Shift.over_between.Given as goal

abbrev pub invariant-loop-r : goal.invariant-loop-r
invariant-loop-r l = (k : ℕ) → k < l.r → transient_at l.self.world.now.tables k ≡ true →
    slice_index l.row k + slice_index l.self.required.now k ≤ capacity_of l.self.world.now.tables l.to.0 k

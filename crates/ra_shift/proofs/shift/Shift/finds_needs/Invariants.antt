-- Each of the needs so far is there, or is the service itself.
use Rattle.std.proofs.Common.{◌≢◌, ℕ, ◌<◌}
use Rattle.ra_model.specs.Numbers.{service_of}
use Rattle.ra_model.specs.Services.{in_neighbourhood}
use Rattle.ra_topology.specs.Lists.{service_at}
use Rattle.ra_shift.proofs.shift.Shift.finds_needs.Given as goal

abbrev pub invariant-loop-need : goal.invariant-loop-need
invariant-loop-need l = (k : ℕ) → k < l.need-index → service_at l.needs k ≢ service_of l.self.world.now.tables
    l.self.process.0 → 0 < in_neighbourhood l.self.world.now.tables l.self.world.now.here
    (service_at l.needs k) l.label

-- None of the dependants so far is another service with a process there.
use Rattle.std.proofs.Common.{◌≡◌, ◌≢◌, ℕ, ◌<◌}
use Rattle.ra_model.specs.Services.{in_neighbourhood}
use Rattle.ra_topology.specs.Lists.{service_at}
use Rattle.ra_shift.proofs.reads.may_leave.Given as goal

abbrev pub invariant-loop-d : goal.invariant-loop-d
invariant-loop-d l = (k : ℕ) → k < l.d-index → service_at l.dependants k ≢ l.s.0 →
    in_neighbourhood l.world.tables l.world.here (service_at l.dependants k) l.neighbourhood ≡
    0

-- The services named so far exist.
use Rattle.std.proofs.Common.{ℕ, ◌<◌}
use Rattle.ra_model.specs.Numbers.{all_open, service_of, service_count}
use Rattle.ra_model.proofs.fits.services_exist.Given as goal

abbrev pub invariant-loop-p : goal.invariant-loop-p
invariant-loop-p l = (p : ℕ) → p < l.p → service_of (all_open l.raw) p < service_count (all_open l.raw)

-- The services named so far exist.
use Rattle.std.proofs.Common.{ℕ, ◌<◌}
use Rattle.ra_model.specs.Numbers.{all_open, need_at, service_count}
use Rattle.ra_model.proofs.fits.needs_exist.Given as goal

abbrev pub invariant-loop-place : goal.invariant-loop-place
invariant-loop-place l = (place : ℕ) → place < l.place → need_at (all_open l.raw) place < service_count (all_open l.raw)

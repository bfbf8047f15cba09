-- The resources named so far exist.
use Rattle.std.proofs.Common.{ℕ, ◌<◌}
use Rattle.ra_model.specs.Numbers.{all_open, first_of, second_of, resource_count}
use Rattle.ra_model.proofs.fits.resources_exist.Given as goal

abbrev pub invariant-loop-b : goal.invariant-loop-b
invariant-loop-b l = record {
  firsts : (b : ℕ) → b < l.b → first_of (all_open l.raw) b < resource_count (all_open l.raw);
  seconds : (b : ℕ) → b < l.b → second_of (all_open l.raw) b < resource_count (all_open l.raw);
}

-- The ends so far are in order and within the list.
use Rattle.std.proofs.Common.{◌≡◌, ℕ, ◌<◌, ◌≤◌, length}
use Rattle.ra_model.specs.Numbers.{all_open, dependency_start, dependency_end}
use Rattle.ra_model.proofs.fits.dependencies_fit.Given as goal

abbrev pub invariant-loop-s : goal.invariant-loop-s
invariant-loop-s l = record {
  start : l.start ≡ dependency_start (all_open l.raw) l.s;
  ordered : (s : ℕ) → s < l.s → dependency_start (all_open l.raw) s ≤ dependency_end (all_open l.raw) s;
  within : (s : ℕ) → s < l.s → dependency_end (all_open l.raw) s ≤ length l.raw.dependencies.items;
}

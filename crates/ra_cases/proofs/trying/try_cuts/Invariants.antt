use Rattle.std.proofs.Common.{◌≡◌, ℕ, ◌<◌, slice_index}
use Rattle.ra_cases.specs.Runs.{RunsAt}
use Rattle.ra_cases.specs.declared.trying.TheConstants.{CUTS}
use Rattle.ra_cases.proofs.trying.try_cuts.Given as goal

abbrev pub invariant-loop-each : goal.invariant-loop-each
invariant-loop-each g l = record {
  same : l.sink ≡ l.initial.sink;
  ran : (k : ℕ) → k < l.each-index → RunsAt l.asked (slice_index CUTS k);
}

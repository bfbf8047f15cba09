-- Each pass so far has flagged a process.
use Rattle.std.proofs.Common.{◌≤◌}
use Rattle.ra_pins.specs.Searches.{IsBetweenPasses, flag_count}
use Rattle.ra_pins.proofs.looks.find_pinned.Given as goal

abbrev pub invariant-loop-t : goal.invariant-loop-t
invariant-loop-t g l = record {
  between : IsBetweenPasses l.inst.tables l.a0.items l.search l.t;
  flagged : l.t ≤ flag_count l.inst.tables l.search;
}

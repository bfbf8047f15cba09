use Rattle.std.proofs.Common.{◌≡◌, ◌≤◌, take}
use Rattle.ra_report.specs.Summaries.{done_count}
use Rattle.ra_report.proofs.summary.count_done.Given as goal

abbrev pub invariant-loop-place : goal.invariant-loop-place
invariant-loop-place l = (l.done ≡ done_count (take l.place l.entries.items)) × (l.done ≤ l.place)

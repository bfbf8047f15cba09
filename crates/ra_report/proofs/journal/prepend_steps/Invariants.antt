-- The last steps are written.
use Rattle.std.proofs.Common.{◌≤◌, ◌-◌, ◌*◌, length, drop}
use Rattle.ra_report.specs.Lines.{Prepends}
use Rattle.ra_report.specs.JournalTexts.{steps_text}
use Rattle.ra_report.proofs.journal.prepend_steps.Given as goal

abbrev pub invariant-loop-left : goal.invariant-loop-left
invariant-loop-left l = record {
  within : l.left ≤ length l.mv.steps;
  written : Prepends l.fn.line l.line (steps_text (drop l.left l.mv.steps)) (63 * (length l.mv.steps - l.left));
}

abbrev pub decreases-loop-left : goal.decreases-loop-left
decreases-loop-left l = l.left

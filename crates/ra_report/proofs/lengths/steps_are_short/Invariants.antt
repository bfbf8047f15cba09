use Rattle.std.proofs.Common.{◌≤◌, ◌*◌, length, take}
use Rattle.ra_report.specs.JournalTexts.{steps_text}
use Rattle.ra_report.proofs.lengths.steps_are_short.Given as goal

abbrev pub invariant-loop-i : goal.invariant-loop-i
invariant-loop-i l = length (steps_text (take l.i l.mv.steps)) ≤ 33 * l.i

-- The last numbers are written.
use Rattle.std.proofs.Common.{◌-◌, ◌*◌, [], length, drop}
use Rattle.ra_report.specs.Lines.{Prepends}
use Rattle.ra_model_text.specs.ModelLines.{numbers_text}
use Rattle.ra_model_text.proofs.lines.write_numbers.Given as goal

abbrev pub invariant-loop-i : goal.invariant-loop-i
invariant-loop-i l = Prepends [] l.line (numbers_text (drop l.i l.numbers)) (21 * (length l.numbers - l.i))

use Rattle.std.proofs.Common.{◌≡◌, ◌+◌, ◌*◌, ◌≤◌, ◌++◌, length}
use Rattle.std.specs.Prelude.{drop}
use Rattle.ra_model_text.specs.Lines.{line_text}
use Rattle.ra_trial.proofs.LineLemmas.{text_from}
use Rattle.ra_trial.proofs.lines.push_line.Given as goal

abbrev pub invariant-loop-k : goal.invariant-loop-k
invariant-loop-k l = record {
  written : l.text.items ++ text_from l.k (drop l.k l.numbers) ≡ l.initial.text.items ++ line_text l.numbers;
  short : length l.text.items ≤ length l.initial.text.items + 11 * l.k;
  room : l.text.room ≡ l.initial.text.room;
}

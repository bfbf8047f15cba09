use Rattle.std.proofs.Common.{◌≡◌, ◌+◌, ◌*◌, [], ◌∷◌}
use Rattle.ra_model_text.specs.Lines.{lines_text}
use Rattle.ra_trial.specs.Lines.{listed, AddsAtMost}
use Rattle.ra_trial.specs.Numbers.{trial_word}
use Rattle.ra_trial.specs.Trials.{machine_line}
use Rattle.ra_trial.proofs.machines.push_machines.Given as goal

abbrev pub invariant-loop-m : goal.invariant-loop-m
invariant-loop-m l = record {
  adds : AddsAtMost l.fn.text l.text (lines_text ((100 ∷ []) ∷ listed l.m (machine_line (trial_word l.words.number))))
      (12 + 1211 * l.m);
  line : l.line.room ≡ 110;
}

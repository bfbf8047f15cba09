use Rattle.std.proofs.Common.{◌+◌, ◌*◌, [], ◌∷◌}
use Rattle.ra_model_text.specs.Lines.{lines_text}
use Rattle.ra_trial.specs.Lines.{listed, AddsAtMost}
use Rattle.ra_trial.specs.Numbers.{trial_word}
use Rattle.ra_trial.specs.Trials.{service_line}
use Rattle.ra_trial.proofs.groups.push_services.Given as goal

abbrev pub invariant-loop-s : goal.invariant-loop-s
invariant-loop-s l =
    AddsAtMost l.fn.text l.text (lines_text ((250 ∷ []) ∷ listed l.s (service_line (trial_word l.words.number))))
    (12 + 34 * l.s)

use Rattle.std.proofs.Common.{◌+◌, ◌*◌, [], ◌∷◌}
use Rattle.ra_model_text.specs.Lines.{lines_text}
use Rattle.ra_trial.specs.Lines.{listed, AddsAtMost}
use Rattle.ra_trial.specs.Numbers.{trial_word}
use Rattle.ra_trial.specs.Trials.{process_line}
use Rattle.ra_trial.proofs.groups.push_processes.Given as goal

abbrev pub invariant-loop-p : goal.invariant-loop-p
invariant-loop-p l =
    AddsAtMost l.fn.text l.text (lines_text ((1000 ∷ []) ∷ listed l.p (process_line (trial_word l.words.number))))
    (12 + 67 * l.p)

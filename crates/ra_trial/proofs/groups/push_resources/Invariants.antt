use Rattle.std.proofs.Common.{◌+◌, ◌*◌, [], ◌∷◌}
use Rattle.ra_model_text.specs.Lines.{lines_text}
use Rattle.ra_trial.specs.Lines.{listed, AddsAtMost}
use Rattle.ra_trial.specs.Trials.{resource_line}
use Rattle.ra_trial.proofs.groups.push_resources.Given as goal

abbrev pub invariant-loop-r : goal.invariant-loop-r
invariant-loop-r l = AddsAtMost l.fn.text l.text (lines_text ((4 ∷ []) ∷ listed l.r resource_line)) (12 + 23 * l.r)

use Rattle.std.proofs.Common.{arith, ap, ◌∙◌, length}
use Rattle.ra_model_text.specs.Lines.{line_text}
use Rattle.ra_trial.proofs.LineLemmas.{adds_as}
use Rattle.ra_trial.proofs.machines.push_machine.Goals as goal

pub returns-clause-adds : goal.returns-clause-adds
returns-clause-adds c = adds_as (ap line_text (c.as_slice.ensures ∙ c.gather_machine.ensures.items))
    (omega (arith, ap length c.as_slice.ensures)) c.push_line.ensures

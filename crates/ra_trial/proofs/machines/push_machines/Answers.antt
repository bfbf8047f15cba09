use Rattle.std.proofs.Common.{arith}
use Rattle.ra_trial.specs.Trials.{machine_lines}
use Rattle.ra_trial.proofs.LineLemmas.{adds_count, adds_line, adds_group}
use Rattle.ra_trial.proofs.machines.push_machines.Goals as goal

pub loop-m-init : goal.loop-m-init
loop-m-init c = record { adds = adds_count _ _ c.push_line.ensures; line = c.requires.line }

pub loop-m-preserved : goal.loop-m-preserved
loop-m-preserved c = record {
  adds = adds_line _ _ c.loop-m.m (omega arith) c.loop-m.invariant.adds
      c.push_machine.ensures.adds;
  line = c.push_machine.ensures.line;
}

pub returns : goal.returns
unfolding machine_lines
returns c = adds_group _ _ (omega arith) (omega arith)
    c.loop-m.invariant.adds

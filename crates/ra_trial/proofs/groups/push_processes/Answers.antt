use Rattle.std.proofs.Common.{arith}
use Rattle.ra_trial.specs.Trials.{process_lines}
use Rattle.ra_trial.proofs.LineLemmas.{adds_count, adds_line, adds_group}
use Rattle.ra_trial.proofs.groups.push_processes.Goals as goal

pub loop-p-init : goal.loop-p-init
loop-p-init c = adds_count _ _ c.push_line.ensures

pub loop-p-preserved : goal.loop-p-preserved
loop-p-preserved c =
    adds_line _ _ c.loop-p.p (omega arith) c.loop-p.invariant c.push_process.ensures

pub returns : goal.returns
unfolding process_lines
returns c = adds_group _ _ (omega arith) (omega arith) c.loop-p.invariant

-- One more step.
use Rattle.std.proofs.Common.{arith, ◌≡◌, length}
use Rattle.ra_weigh.specs.Trials.{tables_of, steps_of}
use Rattle.ra_weigh.proofs.SeekLemmas.{clear_none, clear_more}
use Rattle.ra_weigh.proofs.StepLemmas.{service_read, step_process}
use Rattle.ra_weigh.proofs.NextLemmas.{moved_all}
use Rattle.ra_weigh.proofs.trial.Trial.next_service.Goals as goal

pub returns-clause-clear : goal.returns-clause-clear
returns-clause-clear c = grind (arith, moved_all)

pub service_of-s-requires : goal.service_of-s-requires
service_of-s-requires c = grind (arith, step_process)

pub loop-j-init : goal.loop-j-init
loop-j-init c = grind (arith, clear_none)

pub loop-j-preserved : goal.loop-j-preserved
loop-j-preserved c = grind (arith, clear_more, service_read)

-- Its service, as it is read.
use Rattle.std.proofs.Common.{eqb, sym, ◌∙◌, eq-eqb, arith}
use Rattle.std.proofs.lemmas.Bool.{eqb-true, both_ways}
use Rattle.ra_weigh.specs.Trials.{tables_of, steps_of}
use Rattle.ra_weigh.proofs.StepLemmas.{step_process, service_read}
use Rattle.ra_weigh.proofs.trial.Trial.is_other.Goals as goal

pub service_of-requires : goal.service_of-requires
service_of-requires c = step_process c.args.self.now.moves c.step.ensures c.requires

pub returns-clause-moves : goal.returns-clause-moves
returns-clause-moves c = λ told. grind (arith, service_read, eqb-true)

pub returns-clause-none : goal.returns-clause-none
returns-clause-none c = λ told other same. grind (arith, eq-eqb, service_read)

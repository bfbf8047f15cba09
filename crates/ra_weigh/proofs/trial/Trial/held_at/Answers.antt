-- An end whose location is new counts if that holds the service.
use Rattle.std.proofs.Common.{sym, ◌∙◌, arith}
use Rattle.ra_weigh.proofs.LocationLemmas.{held_again, held_new, held_marked}
use Rattle.ra_weigh.proofs.trial.Trial.held_at.Goals as goal

pub returns-then-is_label_before-clause-came : goal.returns-then-is_label_before-clause-came
returns-then-is_label_before-clause-came c = grind (arith, held_again)

pub returns-then-is_label_before-clause-went : goal.returns-then-is_label_before-clause-went
returns-then-is_label_before-clause-went c = grind (arith, held_again)

pub returns-clause-came : goal.returns-clause-came
returns-clause-came c = grind (arith, held_new, held_marked)

pub returns-clause-went : goal.returns-clause-went
returns-clause-went c = grind (arith, held_new, held_marked)

-- The counter is that of the blank.
use Rattle.test_replica.proofs.tests.trials.try_from.Given as goal

abbrev pub ghosts-passes : goal.ghosts-passes
ghosts-passes g a = record { name = a.blank.name; parts = a.blank.parts }

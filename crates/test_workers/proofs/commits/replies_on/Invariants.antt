-- The counter is that of the blank.
use Rattle.test_workers.proofs.commits.replies_on.Given as goal

abbrev pub ghosts-first_plans : goal.ghosts-first_plans
ghosts-first_plans g a = record { name = a.blank.name; parts = a.blank.parts }

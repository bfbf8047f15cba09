-- The ledger is that of the given blank.
use Rattle.test_replica.proofs.model.the_sample_is_read_back.Given as goal

abbrev pub ghosts-of_process : goal.ghosts-of_process
ghosts-of_process g a = record { name = a.blank.name; parts = a.blank.parts }

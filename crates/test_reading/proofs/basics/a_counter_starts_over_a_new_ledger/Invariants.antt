-- The ledger is that of the given blank.
use Rattle.test_reading.proofs.basics.a_counter_starts_over_a_new_ledger.Given as goal

abbrev pub ghosts-two_ticks : goal.ghosts-two_ticks
ghosts-two_ticks g a = record { name = a.blank.name; parts = a.blank.parts }

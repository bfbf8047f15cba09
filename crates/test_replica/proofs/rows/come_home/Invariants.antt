-- The counter is that of the blank.
use Rattle.test_replica.proofs.rows.come_home.Given as goal

abbrev pub ghosts-shift_once : goal.ghosts-shift_once
ghosts-shift_once g a = record { name = a.blank.name; parts = a.blank.parts }

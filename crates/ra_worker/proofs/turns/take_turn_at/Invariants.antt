-- The ledgers of two counters.
use Rattle.ra_worker.proofs.turns.take_turn_at.Given as goal

abbrev pub ghosts-follow_to : goal.ghosts-follow_to
ghosts-follow_to a = record { name = a.blank.name; parts = a.blank.parts }

abbrev pub ghosts-hand_in : goal.ghosts-hand_in
ghosts-hand_in a = record { name = a.blank.name; parts = a.blank.parts }

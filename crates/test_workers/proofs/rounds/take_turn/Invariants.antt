-- The ledger of a counter.
use Rattle.test_workers.proofs.rounds.take_turn.Given as goal

abbrev pub ghosts-hand_in : goal.ghosts-hand_in
ghosts-hand_in a = record { name = a.blank.name; parts = a.blank.parts }

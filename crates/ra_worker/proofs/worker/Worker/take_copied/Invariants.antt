-- The ledger of a counter.
use Rattle.ra_worker.proofs.worker.Worker.take_copied.Given as goal

abbrev pub ghosts-take_in : goal.ghosts-take_in
ghosts-take_in a = record { name = a.blank.name; parts = a.blank.parts }

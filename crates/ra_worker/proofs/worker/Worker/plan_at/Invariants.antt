-- The ledger of a counter.
use Rattle.ra_worker.proofs.worker.Worker.plan_at.Given as goal

abbrev pub ghosts-offer_at : goal.ghosts-offer_at
ghosts-offer_at a = record { name = a.blank.name; parts = a.blank.parts }

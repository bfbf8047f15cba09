-- The ledger of a counter.
use Rattle.ra_verify.proofs.judging.judge.Given as goal

abbrev pub ghosts-first_unlike : goal.ghosts-first_unlike
ghosts-first_unlike a = record { name = a.blank.name; parts = a.blank.parts }

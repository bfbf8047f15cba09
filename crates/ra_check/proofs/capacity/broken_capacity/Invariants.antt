-- The ledger is that of the given blank.
use Rattle.ra_check.proofs.capacity.broken_capacity.Given as goal

abbrev pub ghosts-sum_usage : goal.ghosts-sum_usage
ghosts-sum_usage a = record { name = a.blank.name; parts = a.blank.parts }

-- The ledger is that of the given blank.
use Rattle.ra_bounds.proofs.lower.bound.Given as goal

abbrev pub ghosts-required_sums : goal.ghosts-required_sums
ghosts-required_sums a = record { name = a.blank.name; parts = a.blank.parts }

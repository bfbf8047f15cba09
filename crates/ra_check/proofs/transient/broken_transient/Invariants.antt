-- The ledger is that of the given blank.
use Rattle.ra_check.proofs.transient.broken_transient.Given as goal

abbrev pub ghosts-sum_transient : goal.ghosts-sum_transient
ghosts-sum_transient a = record { name = a.blank.name; parts = a.blank.parts }

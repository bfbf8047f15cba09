-- The ledger is that of the given blank.
use Rattle.ra_pins.proofs.search.kept_at_start.Given as goal

abbrev pub ghosts-keep_between : goal.ghosts-keep_between
ghosts-keep_between a = record { name = a.blank.name; parts = a.blank.parts }

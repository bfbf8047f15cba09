-- The ledger is that of the given blank.
use Rattle.ra_pins.proofs.pins.flags_of.Given as goal

abbrev pub ghosts-find_pinned : goal.ghosts-find_pinned
ghosts-find_pinned a = record { name = a.blank.name; parts = a.blank.parts }

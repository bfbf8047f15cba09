-- The ledger is that of the given blank.
use Rattle.ra_pins.proofs.pins.loads_of.Given as goal

abbrev pub ghosts-add_loads : goal.ghosts-add_loads
ghosts-add_loads a = record { name = a.blank.name; parts = a.blank.parts }

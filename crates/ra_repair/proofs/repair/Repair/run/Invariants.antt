-- The counter of requirements is one of its own.
use Rattle.ra_repair.proofs.repair.Repair.run.Given as goal

abbrev pub ghosts-make_tries : goal.ghosts-make_tries
ghosts-make_tries a = record { name = a.blank.name; parts = a.blank.parts }

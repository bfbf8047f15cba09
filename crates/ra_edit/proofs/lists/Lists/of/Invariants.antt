-- The ledger is that of the given blank.
use Rattle.ra_edit.proofs.lists.Lists.of.Given as goal

abbrev pub ghosts-requirements_of : goal.ghosts-requirements_of
ghosts-requirements_of a = record { name = a.blank.name; parts = a.blank.parts }

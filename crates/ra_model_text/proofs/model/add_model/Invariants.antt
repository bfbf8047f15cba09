-- The ledger is that of the given blank.
use Rattle.ra_model_text.proofs.model.add_model.Given as goal

abbrev pub ghosts-add_processes : goal.ghosts-add_processes
ghosts-add_processes g a = record { name = a.blank.name; parts = a.blank.parts }

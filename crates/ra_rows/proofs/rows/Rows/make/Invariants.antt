-- The counter is that of the blank.
use Rattle.ra_rows.proofs.rows.Rows.make.Given as goal

abbrev pub ghosts-sum_usage : goal.ghosts-sum_usage
ghosts-sum_usage a = record { name = a.blank.name; parts = a.blank.parts }

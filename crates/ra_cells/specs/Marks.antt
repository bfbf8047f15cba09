-- The marks of a machine: its number, and the labels of its location and of its neighbourhood. The cells count how many
-- processes of a service have a mark.
use Rattle.std.specs.Prelude.{ℕ, not, ◌==◌, List}
use Rattle.ra_base.specs.Sums.{one_if}
use Rattle.ra_base.specs.declared.ids.Machine.{Machine}
use Rattle.ra_model.specs.declared.raw.Tables.{Tables}
use Rattle.ra_model.specs.Numbers.{neighbourhood_of, location_of}
use Rattle.ra_model.specs.Services.{members_at}
use Rattle.ra_cells.specs.declared.marks.Mark.{Mark}
use Rattle.ra_cells.specs.declared.marks.Mark.TheVariants.{OnMachine, InLocation, InNeighbourhood}

-- one of the marks of machine m
unfoldable pub mark_of : Tables → Mark → ℕ → ℕ
mark_of i OnMachine m = m
mark_of i InLocation m = location_of i m
mark_of i InNeighbourhood m = neighbourhood_of i m

-- how many processes of service s are on machines with mark x
unfoldable pub marked : Tables → Mark → List Machine → ℕ → ℕ → ℕ
marked i mark a s x = members_at i a s (λ p at. mark_of i mark at == x)

-- 1 for a process whose initial machine is `home` and whose machine is `at`, if the two differ, else 0
unfoldable pub away : ℕ → ℕ → ℕ
away home at = one_if (not (home == at))

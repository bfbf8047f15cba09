-- The marks of a machine: its number, and the labels of its location and of its neighbourhood. A count of a service
-- says how many of its processes are on machines with a mark.
use Rattle.std.specs.Prelude.{ℕ, Bool, ◌==◌, nat_lt, List}
use Rattle.ra_base.specs.Sums.{one_if}
use Rattle.ra_base.specs.declared.ids.Machine.{Machine}
use Rattle.ra_model.specs.declared.raw.Tables.{Tables}
use Rattle.ra_model.specs.Numbers.{neighbourhood_of, location_of}
use Rattle.ra_model.specs.Services.{members_at, in_location}
use Rattle.ra_moves.specs.declared.steps.Step.{Step}
use Rattle.ra_moves.specs.Values.{end_in}
use Rattle.ra_weigh.specs.declared.marks.Mark.{Mark}
use Rattle.ra_weigh.specs.declared.marks.Mark.TheVariants.{OnMachine, InLocation, InNeighbourhood}

-- one of the marks of machine m
unfoldable pub mark_of : Tables → Mark → ℕ → ℕ
mark_of i OnMachine m = m
mark_of i InLocation m = location_of i m
mark_of i InNeighbourhood m = neighbourhood_of i m

-- a process is on a machine with mark x
unfoldable pub has_mark : Tables → Mark → ℕ → ℕ → ℕ → Bool
has_mark i mark x p at = mark_of i mark at == x

-- how many processes of service s are on machines with mark x
unfoldable pub marked : Tables → Mark → List Machine → ℕ → ℕ → ℕ
marked i mark a s x = members_at i a s (has_mark i mark x)

-- 1 for a location, given by its label, that holds a process of service s
unfoldable pub location_holds : Tables → List Machine → ℕ → ℕ → ℕ
location_holds i a s label = one_if (nat_lt 0 (in_location i a s label))

-- the location of an end of the steps
unfoldable pub end_location : Tables → List Step → ℕ → ℕ
end_location i steps j = location_of i (end_in steps j)

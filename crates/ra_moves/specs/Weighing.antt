-- The weighing of a move: what it breaks, or else what it changes except for the greatest moved count, which depends on
-- all services (this project's).
use Rattle.std.specs.Prelude.{ℕ, zero, suc, ◌+◌, ℤ, pos, ◌-ℤ◌, Bool, not, List, [], ◌∷◌, ◌++◌, length, Option, Some, None, if◌then◌else◌}
use Rattle.ra_base.specs.Sums.{is_named}
use Rattle.ra_base.specs.declared.causes.Cause.{Cause}
use Rattle.ra_base.specs.declared.costs.MovedCount.{MovedCount}
use Rattle.ra_model.specs.declared.raw.Tables.{Tables}
use Rattle.ra_model.specs.Costs.{load_cost, balance_cost}
use Rattle.ra_model.specs.Situations.{Situation, moved_at, process_cost_at, machine_cost_at}
use Rattle.ra_moves.specs.declared.steps.Step.{Step}
use Rattle.ra_moves.specs.declared.verdicts.Weighed.{Weighed}
use Rattle.ra_moves.specs.Replacing.{after_move}
use Rattle.ra_moves.specs.Judging.{broken_by}
use Rattle.ra_moves.specs.Touched.{service_in}

-- the sum of load, balance, process and machine cost
unfoldable pub local_cost : Situation → ℕ
local_cost st =
    load_cost st.tables st.here + balance_cost st.tables st.here + process_cost_at st
    + machine_cost_at st

-- by how much a move changes this sum
unfoldable pub local_change : Situation → List Step → ℤ
local_change st steps = pos (local_cost (after_move st steps)) -ℤ pos (local_cost st)

-- a service with its moved counts before and after a move
unfoldable pub moved_count : Situation → List Step → ℕ → MovedCount
moved_count st steps s =
    record {
      service = record { 0 = s };
      before = moved_at st s;
      after = moved_at (after_move st steps) s;
    }

-- no step before step j moves its service
unfoldable pub is_new_service : Tables → List Step → ℕ → Bool
is_new_service i steps j = not (is_named j (service_in i steps) (service_in i steps j))

-- the different services of the first n steps, in the order of the steps
unfoldable pub services_moved : Tables → List Step → ℕ → List ℕ
services_moved i steps zero = []
services_moved i steps (suc n) =
    if is_new_service i steps n then services_moved i steps n ++ service_in i steps n ∷ []
    else services_moved i steps n

-- the moved counts of service k of a list, if the list has so many
unfoldable pub count_at : Situation → List Step → List ℕ → ℕ → Option MovedCount
count_at st steps [] k = None
count_at st steps (s ∷ rest) zero = Some (moved_count st steps s)
count_at st steps (s ∷ rest) (suc k) = count_at st steps rest k

-- the moved counts of the different services of a move, in the order of its steps
unfoldable pub changed_count : Situation → List Step → ℕ → Option MovedCount
changed_count st steps k = count_at st steps (services_moved st.tables steps (length steps)) k

-- if there is a cause, nothing else is told
unfoldable pub weighed_by : Option Cause → ℤ → (ℕ → Option MovedCount) → Weighed
weighed_by None local counts =
    record { broken = None; local = local; first = counts 0; second = counts 1; third = counts 2 }
weighed_by (Some cause) local counts =
    record { broken = Some cause; local = pos 0; first = None; second = None; third = None }

-- the weighing of a move: the cause other than Rise for which it is refused; else the change of the sum of load,
-- balance, process and machine cost, and the moved counts of the different services
unfoldable pub weighed_of : Situation → List Step → Weighed
weighed_of st steps =
    weighed_by (broken_by st steps) (local_change st steps) (changed_count st steps)

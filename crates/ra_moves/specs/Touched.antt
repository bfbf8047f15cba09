-- What the steps of a move touch: the machines that they leave and enter, the services of their processes, and the
-- services that are joined with one of those by a dependency (this project's).
use Rattle.std.specs.Prelude.{ℕ, List, length, Bool, ◌||◌, nat_lt}
use Rattle.ra_base.specs.Sums.{count, is_named}
use Rattle.ra_model.specs.declared.raw.Tables.{Tables}
use Rattle.ra_model.specs.Numbers.{service_of}
use Rattle.ra_model.specs.Relations.{are_joined}
use Rattle.ra_moves.specs.declared.steps.Step.{Step}
use Rattle.ra_moves.specs.Steps.{process_in, from_in, to_in}

-- a step leaves or enters machine m
unfoldable pub touches_machine : List Step → ℕ → Bool
touches_machine steps m =
    is_named (length steps) (from_in steps) m || is_named (length steps) (to_in steps) m

-- the service of the process of step j
unfoldable pub service_in : Tables → List Step → ℕ → ℕ
service_in i steps j = service_of i (process_in steps j)

-- a process of service s moves
unfoldable pub moves_service : Tables → List Step → ℕ → Bool
moves_service i steps s = is_named (length steps) (service_in i steps) s

-- a service that moves depends on service u, or service u on one that moves
unfoldable pub reads_service : Tables → List Step → ℕ → Bool
reads_service i steps u =
    nat_lt 0 (count (length steps) (λ j. are_joined i (service_in i steps j) u))

-- service u moves, or is joined with one that moves
unfoldable pub guards_service : Tables → List Step → ℕ → Bool
guards_service i steps u = moves_service i steps u || reads_service i steps u

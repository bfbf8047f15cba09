-- How the processes of a service are placed: how many of them pass a test of process and machine.
use Rattle.std.specs.Prelude.{ℕ, ◌^◌, List, Bool, true, false, if◌then◌else◌, ◌==◌, ◌&&◌, nat_lt}
use Rattle.ra_base.specs.Sums.{one_if, count}
use Rattle.ra_base.specs.declared.ids.Machine.{Machine}
use Rattle.ra_model.specs.declared.raw.Tables.{Tables}
use Rattle.ra_model.specs.Numbers.{process_count, service_of, neighbourhood_of, location_of}
use Rattle.ra_model.specs.Assignments.{machine_at, tally}

-- whether process p is one of service s
unfoldable pub is_of : Tables → ℕ → ℕ → Bool
is_of i s p = service_of i p == s

-- 1 if process p is one of service s and passes a test on machine `at`, else 0
unfoldable pub of_service : Tables → ℕ → (ℕ → ℕ → Bool) → ℕ → ℕ → ℕ
of_service i s test p at = one_if (is_of i s p && test p at)

-- how many processes of service s pass a test of the process and its machine
unfoldable pub members_at : Tables → List Machine → ℕ → (ℕ → ℕ → Bool) → ℕ
members_at i a s test = tally (process_count i) (of_service i s test) a

-- how many processes of service s are on machine m
unfoldable pub on_machine : Tables → List Machine → ℕ → ℕ → ℕ
on_machine i a s m = members_at i a s (λ p at. at == m)

-- how many processes of service s are in a neighbourhood, given by its label
unfoldable pub in_neighbourhood : Tables → List Machine → ℕ → ℕ → ℕ
in_neighbourhood i a s label = members_at i a s (λ p at. neighbourhood_of i at == label)

-- how many processes of service s are in a location, given by its label
unfoldable pub in_location : Tables → List Machine → ℕ → ℕ → ℕ
in_location i a s label = members_at i a s (λ p at. location_of i at == label)

-- the number of different locations that hold a process of service s
unfoldable pub locations_of : Tables → List Machine → ℕ → ℕ
locations_of i a s = count (2 ^ 32) (λ label. nat_lt 0 (in_location i a s label))

-- the number of processes of service s with A(p) != A0(p)
unfoldable pub moved_of : Tables → List Machine → List Machine → ℕ → ℕ
moved_of i a0 a s = members_at i a s (λ p at. if machine_at a0 p == at then false else true)

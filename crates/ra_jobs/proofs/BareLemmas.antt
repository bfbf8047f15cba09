-- The room that was reserved for the lists of an instance doesn't matter for what they say.
use Rattle.std.proofs.Common.{◌≡◌, ℕ, Bool, List, Option, Some, None, refl}
use Rattle.ra_base.specs.Listed.{Listed}
use Rattle.ra_base.specs.Tables.{cell}
use Rattle.ra_base.specs.declared.ids.Machine.{Machine}
use Rattle.ra_model.specs.declared.raw.RawInstance.{RawInstance}
use Rattle.ra_model.specs.declared.raw.Tables.{Tables}
use Rattle.ra_model.specs.Numbers.{resource_row, machine_row, service_row, process_row, resource_count, machine_count, service_count, process_count, transient_at, neighbourhood_of, location_of, capacity_of, spread_of, dependency_end, dependency_start, need_at, need_of, dependency_count, service_of, requirement_of, flag_in, closed_at}
use Rattle.ra_jobs.proofs.RowLemmas.{plain, raw_of, bare_raw}
use Rattle.ra_assign.specs.ClosedLists.{closed_refusal, token_test, machine_test as closed_machine_test}
use Rattle.ra_assign.specs.Lists.{assign_refusal, process_test, machine_test as assign_machine_test, end_test}
use Rattle.ra_model.specs.Assignments.{tally}
use Rattle.ra_model.specs.Usage.{use_share, use_of, transient_share, transient_of}
use Rattle.ra_model.specs.Services.{is_of, of_service, members_at, on_machine, in_neighbourhood, in_location, locations_of}
use Rattle.ra_model.specs.Broken.{capacity_test, row_capacity, broken_capacity, transient_test, row_transient, broken_transient, conflict_test, service_conflict, broken_conflict, spread_test, broken_spread, near_of, far_test, dependency_test, pair_dependency, service_dependency, broken_dependency, closed_test, broken_closed, first_broken}

unfoldable pub bare_closed : Option (Listed Bool) → Option (Listed Bool)
bare_closed None = None
bare_closed (Some flags) = Some (plain flags.items)

abbrev pub bare : Tables → Tables
bare i = record { raw = bare_raw i.raw; closed = bare_closed i.closed }

flags_bare : (flags : Option (Listed Bool)) (m : ℕ) → flag_in (bare_closed flags) m ≡ flag_in flags m
unfolding bare_closed flag_in
flags_bare None m = refl
flags_bare (Some flags) m = refl

closed_bare : (raw : RawInstance) (closed : Option (Listed Bool)) (a0 a : List Machine) →
    broken_closed (record { raw = bare_raw raw; closed = bare_closed closed }) a0 a ≡
    broken_closed (record { raw = raw; closed = closed }) a0 a
unfolding raw_of bare_raw bare_closed process_count broken_closed closed_test closed_at flag_in
closed_bare raw None a0 a = refl
closed_bare raw (Some flags) a0 a = refl

module _ (i : Tables) where
  module _ (a : List Machine) where
    capacity_bare : broken_capacity (bare i) a ≡ broken_capacity i a
    unfolding raw_of bare_raw machine_count resource_count process_count broken_capacity row_capacity capacity_test
        use_of
        use_share tally requirement_of capacity_of cell
    capacity_bare = refl

    conflict_bare : broken_conflict (bare i) a ≡ broken_conflict i a
    unfolding raw_of bare_raw machine_count service_count process_count broken_conflict service_conflict conflict_test
        on_machine members_at tally of_service is_of service_of process_row
    conflict_bare = refl

    spread_bare : broken_spread (bare i) a ≡ broken_spread i a
    unfolding raw_of bare_raw service_count process_count broken_spread spread_test locations_of in_location members_at
        tally of_service is_of service_of process_row location_of machine_row spread_of service_row
    spread_bare = refl

    dependency_bare : broken_dependency (bare i) a ≡ broken_dependency i a
    unfolding raw_of bare_raw service_count process_count broken_dependency service_dependency pair_dependency
        dependency_test far_test near_of in_neighbourhood members_at tally of_service is_of service_of process_row
        neighbourhood_of machine_row dependency_count dependency_end dependency_start service_row need_of need_at
    dependency_bare = refl

  transient_bare : (a0 a : List Machine) → broken_transient (bare i) a0 a ≡ broken_transient i a0 a
  unfolding raw_of bare_raw machine_count resource_count process_count broken_transient row_transient transient_test
      transient_of transient_share tally requirement_of capacity_of cell transient_at resource_row
  transient_bare a0 a = refl

  pub broken_bare : (a0 a : List Machine) → first_broken (bare i) a0 a ≡ first_broken i a0 a
  unfolding first_broken
  broken_bare a0 a =
      rw (
        capacity_bare a,
        transient_bare a0 a,
        conflict_bare a,
        spread_bare a,
        dependency_bare a,
        closed_bare i.raw i.closed a0 a,
      ) refl

  pub machines_bare : machine_count (bare i) ≡ machine_count i
  unfolding raw_of bare_raw machine_count
  machines_bare = refl

pub closed_list_bare : (bytes : List ℕ) (i : Tables) → closed_refusal bytes (bare i) ≡ closed_refusal bytes i
unfolding raw_of bare_raw closed_refusal token_test closed_machine_test machine_count
closed_list_bare bytes i = refl

pub assign_bare : (bytes : List ℕ) (i : Tables) → assign_refusal bytes (bare i) ≡ assign_refusal bytes i
unfolding raw_of bare_raw assign_refusal process_test assign_machine_test end_test machine_count process_count
assign_bare bytes i = refl

-- What is read of the lists of a draft.
use Rattle.std.proofs.Common.{arith}
use Rattle.std.proofs.lemmas.Grind.{common_steps}
use Rattle.std.proofs.Common.{◌≡◌, ◌≢◌, ℕ, ◌*◌, ◌^◌, ◌<◌, List, length, get_or, refl, ne_eqb}
use Rattle.ra_base.specs.Tables.{cell}
use Rattle.ra_base.specs.declared.ids.Machine.{Machine}
use Rattle.ra_model.specs.declared.raw.ProcessRow.{ProcessRow}
use Rattle.ra_model.specs.declared.raw.Tables.{Tables}
use Rattle.ra_model.specs.Numbers.{resource_count, machine_count, resource_row, machine_row, service_row}
use Rattle.ra_model.specs.Numbers.{process_row, balance_row, service_of, requirement_of, location_of, neighbourhood_of}
use Rattle.ra_model.specs.Numbers.{load_weight_of, capacity_of, safety_of, way_cost_of, spread_of, dependency_end}
use Rattle.ra_model.specs.Numbers.{process_cost_of, target_of, balance_weight_of, process_weight_of, service_weight_of}
use Rattle.ra_model.specs.Numbers.{machine_weight_of}
use Rattle.ra_model.specs.Limits.{Small}
use Rattle.ra_model.specs.Assignments.{machine_at}
use Rattle.ra_model.specs.Costs.{process_share}
use Rattle.ra_model.specs.Services.{members_at, on_machine, in_location, in_neighbourhood}
use Rattle.ra_edit.specs.declared.members.Spot.TheVariants.{OnMachine, InNeighbourhood, InLocation}
use Rattle.ra_edit.specs.declared.lists.Lists.{Lists}
use Rattle.ra_edit.specs.Drafts.{Drafted, with_process_rows, instance_of}
use Rattle.ra_edit.specs.Keeping.{drafted, tables_with, IsSoundDraft}
use Rattle.ra_edit.specs.Spots.{is_there}
use Rattle.ra_edit.proofs.SoundLaws.{few_of, AreFew}
use Rattle.ra_edit.proofs.OneMoreLaws.{row_read}

pub few : (i : Tables) (l : Lists) → IsSoundDraft (drafted i l) → AreFew (drafted i l)
few i l sound = few_of sound

pub service_told : (i : Tables) (l : Lists) (p : ℕ) (row : ProcessRow) → p < length l.rows.items →
    row ≡ get_or l.rows.items p row → row.service.0 ≡ service_of (tables_with i l) p
unfolding service_of
service_told i l p row p_in read = cc (row_read i l.rows.items l.requirements.items p row p_in)

pub cost_told : {row : ProcessRow} (i : Tables) (l : Lists) (p : ℕ) → p < length l.rows.items →
    row ≡ get_or l.rows.items p row → row.move_cost ≡ process_cost_of (tables_with i l) p
unfolding process_cost_of
cost_told {row} i l p p_in read = cc (row_read i l.rows.items l.requirements.items p row p_in)

-- shares

pub cost_moves : {w weight cost : ℕ} (i : Tables) (a0 : List Machine) (p at : ℕ) → at ≢ machine_at a0 p → weight ≡ w →
    cost ≡ process_cost_of i p → weight * cost ≡ w * process_share i a0 p at
unfolding process_share
cost_moves i a0 p at apart weight_is cost_is = rw (ne_eqb at (machine_at a0 p) apart, weight_is, cost_is) refl

-- counts at a spot are those of the definitions

pub machine_told : {n : ℕ} (d : Drafted) (a : List Machine) (s : ℕ) (m : Machine) →
    n ≡ members_at (instance_of d) a s (is_there d.origin (OnMachine m)) → n ≡ on_machine (instance_of d) a s m.0
unfolding on_machine
machine_told d a s m is = is

pub near_told : {n : ℕ} (d : Drafted) (a : List Machine) (s label : ℕ) →
    n ≡ members_at (instance_of d) a s (is_there d.origin (InNeighbourhood label)) →
    n ≡ in_neighbourhood (instance_of d) a s label
unfolding in_neighbourhood neighbourhood_of machine_row with_process_rows
near_told d a s label is = is

pub location_told : {n : ℕ} (d : Drafted) (a : List Machine) (s label : ℕ) →
    n ≡ members_at (instance_of d) a s (is_there d.origin (InLocation label)) →
    n ≡ in_location (instance_of d) a s label
unfolding in_location location_of machine_row with_process_rows
location_told d a s label is = is

pub ruleset readings = (few, service_told)

-- numbers of other processes are small too

pub small_with : {i : Tables} (rows : List ProcessRow) (requirements : List ℕ) → Small i →
    ((k : ℕ) → get_or requirements k 0 < 2 ^ 32) → Small (with_process_rows i rows requirements)
unfolding with_process_rows load_weight_of resource_row neighbourhood_of location_of machine_row capacity_of safety_of
    way_cost_of spread_of service_row dependency_end requirement_of process_cost_of process_row target_of
    balance_weight_of balance_row process_weight_of service_weight_of machine_weight_of resource_count machine_count
    cell
small_with {i} rows requirements small each = grind (arith, common_steps)

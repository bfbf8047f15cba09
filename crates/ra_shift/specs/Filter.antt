-- The change of the cost if process p goes to a machine other than its initial one: what all these machines have in
-- common, and what each of them adds (this project's). With ℕ's minus `a - b` is max(0, a - b).
use Rattle.std.specs.Prelude.{◌≡◌, ℕ, ◌+◌, ◌-◌, ◌*◌, ◌==◌, List, if◌then◌else◌}
use Rattle.ra_base.specs.Sums.{total, greatest}
use Rattle.ra_base.specs.declared.ids.Machine.{Machine}
use Rattle.ra_model.specs.declared.raw.Tables.{Tables}
use Rattle.ra_model.specs.Numbers.{resource_count, service_count, balance_count, service_of, process_cost_of, way_cost_of, process_weight_of, service_weight_of, machine_weight_of}
use Rattle.ra_model.specs.Assignments.{machine_at}
use Rattle.ra_model.specs.Situations.{Situation, cost_at, moved_at, service_cost_at}
use Rattle.ra_cells.specs.Marks.{away}
use Rattle.ra_rows.specs.FilterRows.{load_asked, load_row, first_asked, first_row, second_asked, second_row}
use Rattle.ra_shift.specs.Conditions.{shifted}
use Rattle.ra_shift.specs.Sharing.{use_without, row_cost_with, cost_of, way_cost}

-- what p adds to the load cost of machine m: for each resource what it asks above what the machine has below its safety
-- capacity
unfoldable pub load_above : Tables → List Machine → ℕ → ℕ → ℕ
load_above i a p m = total (resource_count i) (λ r. load_asked i p r - load_row i a m r)

-- what p adds to the balance cost of machine m, counted from the most that p could save there
unfoldable pub balance_above : Tables → List Machine → ℕ → ℕ → ℕ
balance_above i a p m =
    total (balance_count i)
    (λ b. first_asked i p b - first_row i a m b + (second_asked i p b - second_row i a m b))

-- the most that p can save of the balance cost of a machine
unfoldable pub saved : Tables → ℕ → ℕ
saved i p = total (balance_count i) (first_asked i p)

-- what a machine adds for p
unfoldable pub filter_sum : Situation → ℕ → ℕ → ℕ
filter_sum st p to =
    machine_weight_of st.tables * way_cost_of st.tables (machine_at st.start p) to
    + load_above st.tables st.here p to + balance_above st.tables st.here p to

-- the moved count of each service, with p on a machine other than its initial one
unfoldable pub moved_away : Situation → ℕ → ℕ → ℕ
moved_away st p s =
    if s == service_of st.tables p
    then moved_at st s + 1 - away (machine_at st.start p) (machine_at st.here p)
    else moved_at st s

-- the service cost with p on a machine other than its initial one
unfoldable pub service_away : Situation → ℕ → ℕ
service_away st p =
    service_weight_of st.tables * greatest (service_count st.tables) (moved_away st p)

-- what is added for every such machine: the costs of the machine that p leaves, its process cost, the service cost
unfoldable pub base_added : Situation → ℕ → ℕ
base_added st p =
    row_cost_with st.tables (machine_at st.here p) (use_without st.tables st.here p)
    + process_weight_of st.tables * process_cost_of st.tables p + service_away st p

-- what is taken away for every such machine: the costs of that machine before, those of p there, the most that p can
-- save, the service cost so far
unfoldable pub base_taken : Situation → ℕ → ℕ
base_taken st p =
    cost_of st.tables st.here (machine_at st.here p)
    + way_cost st.tables st.start p (machine_at st.here p) + saved st.tables p + service_cost_at st

-- the cost after p has gone to a machine with room for it, which isn't its initial one
pub record IsFiltered (st : Situation) (p to : ℕ) : Type 0 where
  pub cost : cost_at (record st { here = shifted st.here p to }) + base_taken st p
      ≡ cost_at st + base_added st p + filter_sum st p to

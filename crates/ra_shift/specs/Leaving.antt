-- What process p of a world leaves, whichever machine it goes to (this project's).
use Rattle.std.specs.Prelude.{ℕ, ◌+◌}
use Rattle.ra_model.specs.Numbers.{service_of, location_of, neighbourhood_of, spread_of}
use Rattle.ra_model.specs.Assignments.{machine_at}
use Rattle.ra_model.specs.Situations.{Situation}
use Rattle.ra_shift.specs.Sharing.{use_without, row_cost_with, cost_of, way_cost}

-- the machine of p
abbrev pub machine_left : Situation → ℕ → ℕ
machine_left st p = machine_at st.here p

-- the location and the neighbourhood of this machine
abbrev pub location_left : Situation → ℕ → ℕ
location_left st p = location_of st.tables (machine_left st p)

abbrev pub neighbourhood_left : Situation → ℕ → ℕ
neighbourhood_left st p = neighbourhood_of st.tables (machine_left st p)

-- in how many locations there have to be processes of its service
abbrev pub spread_wanted : Situation → ℕ → ℕ
spread_wanted st p = spread_of st.tables (service_of st.tables p)

-- the load and balance cost of its machine without it
abbrev pub cost_left : Situation → ℕ → ℕ
cost_left st p = row_cost_with st.tables (machine_left st p) (use_without st.tables st.here p)

-- the load and balance cost of its machine with it, and its own process and machine cost there
abbrev pub cost_before : Situation → ℕ → ℕ
cost_before st p =
    cost_of st.tables st.here (machine_left st p)
    + way_cost st.tables st.start p (machine_left st p)

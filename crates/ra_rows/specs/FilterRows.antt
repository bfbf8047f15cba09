-- What a process asks of a machine, and how much of it the machine has before its cost rises, each times its weight.
-- With ℕ's minus `a - b` is max(0, a - b).
use Rattle.std.specs.Prelude.{ℕ, ◌-◌, ◌*◌, List}
use Rattle.ra_base.specs.declared.ids.Machine.{Machine}
use Rattle.ra_model.specs.declared.raw.Tables.{Tables}
use Rattle.ra_model.specs.Numbers.{load_weight_of, safety_of, first_of, second_of, target_of, balance_weight_of}
use Rattle.ra_model.specs.Numbers.{requirement_of}
use Rattle.ra_model.specs.Usage.{use_of}
use Rattle.ra_model.specs.Costs.{available}

-- loadWeight(r) * R(p, r)
unfoldable pub load_asked : Tables → ℕ → ℕ → ℕ
load_asked i p r = load_weight_of i r * requirement_of i p r

-- loadWeight(r) * max(0, SC(m, r) - U(m, r)): how much use may still be added below the safety capacity
unfoldable pub load_row : Tables → List Machine → ℕ → ℕ → ℕ
load_row i a m r = load_weight_of i r * (safety_of i m r - use_of i a m r)

-- the weight of objective b times max(0, target * R(p, r1) - R(p, r2)): by how much process p reduces the shortfall
unfoldable pub first_asked : Tables → ℕ → ℕ → ℕ
first_asked i p b =
    balance_weight_of i b *
    (target_of i b * requirement_of i p (first_of i b) - requirement_of i p (second_of i b))

-- the weight of objective b times max(0, R(p, r2) - target * R(p, r1)): by how much process p increases the shortfall
unfoldable pub second_asked : Tables → ℕ → ℕ → ℕ
second_asked i p b =
    balance_weight_of i b *
    (requirement_of i p (second_of i b) - target_of i b * requirement_of i p (first_of i b))

-- the weight of objective b times max(0, target * A(m, r1) - A(m, r2)): the shortfall of machine m
unfoldable pub first_row : Tables → List Machine → ℕ → ℕ → ℕ
first_row i a m b =
    balance_weight_of i b *
    (target_of i b * available i a m (first_of i b) - available i a m (second_of i b))

-- the weight of objective b times max(0, A(m, r2) - target * A(m, r1)): the surplus of machine m
unfoldable pub second_row : Tables → List Machine → ℕ → ℕ → ℕ
second_row i a m b =
    balance_weight_of i b *
    (available i a m (second_of i b) - target_of i b * available i a m (first_of i b))

-- The numbers of a trial instance: 4 resources, 100 machines, 250 services and 1,000 processes. Those that are drawn
-- are made from words g 0, g 1, .., of which the first 5,650 are used.
use Rattle.std.specs.Prelude.{ℕ, ◌+◌, ◌*◌, ◌/◌, ◌%◌, ◌==◌, if◌then◌else◌}
use Rattle.ra_base.specs.Sums.{total}
use Rattle.ra_draws.specs.Words.{stream_word, seed_stream}

-- word i of the generator that a number seeds
unfoldable pub trial_word : ℕ → ℕ → ℕ
trial_word number i = stream_word (seed_stream number) i

-- only resource 0 is transient
unfoldable pub trial_transient_of : ℕ → ℕ
trial_transient_of r = if r == 0 then 1 else 0

-- what process p requires of resource r, from words 0 to 3,999: 1 to 100
unfoldable pub trial_requirement_of : (ℕ → ℕ) → ℕ → ℕ → ℕ
trial_requirement_of g p r = 1 + g (4 * p + r) % 100

-- the move cost of process p, from words 4,000 to 4,999: 1 to 10
unfoldable pub trial_process_cost_of : (ℕ → ℕ) → ℕ → ℕ
trial_process_cost_of g p = 1 + g (4000 + p) % 10

-- the machine on which process p starts
unfoldable pub trial_start_of : ℕ → ℕ
trial_start_of p = p % 100

-- what process p uses of resource r on machine m at the start
unfoldable pub start_share : (ℕ → ℕ) → ℕ → ℕ → ℕ → ℕ
start_share g m r p = if trial_start_of p == m then trial_requirement_of g p r else 0

-- the use of resource r on machine m at the start: the requirements of the processes that start there
unfoldable pub start_use_of : (ℕ → ℕ) → ℕ → ℕ → ℕ
start_use_of g m r = total 1000 (start_share g m r)

-- the capacity of resource r on machine m: its use at the start and 100 to 299 more, from words 5,000 to 5,399
unfoldable pub trial_capacity_of : (ℕ → ℕ) → ℕ → ℕ → ℕ
trial_capacity_of g m r = start_use_of g m r + 100 + g (5000 + 4 * m + r) % 200

-- the safety capacity: three quarters of the capacity, rounded down
unfoldable pub trial_safety_of : (ℕ → ℕ) → ℕ → ℕ → ℕ
trial_safety_of g m r = 3 * trial_capacity_of g m r / 4

-- the cost of a move from machine a to machine b
unfoldable pub trial_way_cost_of : ℕ → ℕ → ℕ
trial_way_cost_of a b = if a == b then 0 else 1 + (a + b) % 5

-- how many locations service s needs, from words 5,400 to 5,649: 1 to 3
unfoldable pub trial_spread_of : (ℕ → ℕ) → ℕ → ℕ
trial_spread_of g s = 1 + g (5400 + s) % 3

-- The texts of a trial: its model file, line by line in the order of the fields, and the assignment at its start.
use Rattle.std.specs.Prelude.{ℕ, ◌+◌, ◌/◌, ◌%◌, ◌==◌, if◌then◌else◌, List, [], ◌∷◌, ◌++◌}
use Rattle.ra_base.specs.declared.ids.Machine.{Machine}
use Rattle.ra_assign.specs.Lists.{assignment_bytes}
use Rattle.ra_model_text.specs.Lines.{lines_text}
use Rattle.ra_trial.specs.Lines.{listed}
use Rattle.ra_trial.specs.Numbers.{trial_word, trial_transient_of, trial_requirement_of, trial_process_cost_of}
use Rattle.ra_trial.specs.Numbers.{trial_start_of, trial_capacity_of}
use Rattle.ra_trial.specs.Numbers.{trial_safety_of, trial_way_cost_of, trial_spread_of}

-- a resource: its transient flag and its load weight
unfoldable pub resource_line : ℕ → List ℕ
resource_line r = trial_transient_of r ∷ 10 ∷ []

-- a machine: its neighbourhood, of 20 machines, its location, of 10, its capacities and its safety capacities
unfoldable pub machine_front : (ℕ → ℕ) → ℕ → List ℕ
machine_front g m = m / 20 ∷ m % 10 ∷ listed 4 (trial_capacity_of g m) ++ listed 4 (trial_safety_of g m)

-- the whole line of a machine: its front, and the costs of a move from it to each machine
unfoldable pub machine_line : (ℕ → ℕ) → ℕ → List ℕ
machine_line g m = machine_front g m ++ listed 100 (trial_way_cost_of m)

-- a service: its spread, and each fifth one depends on the service 25 numbers on
unfoldable pub service_line : (ℕ → ℕ) → ℕ → List ℕ
service_line g s =
    if s % 5 == 0 then trial_spread_of g s ∷ 1 ∷ (s + 25) % 250 ∷ [] else trial_spread_of g s ∷ 0 ∷ []

-- a process: its service, of four processes, its requirements and its move cost
unfoldable pub process_line : (ℕ → ℕ) → ℕ → List ℕ
process_line g p = p / 4 ∷ listed 4 (trial_requirement_of g p) ++ trial_process_cost_of g p ∷ []

-- each group has its count in front
unfoldable pub resource_lines : List (List ℕ)
resource_lines = (4 ∷ []) ∷ listed 4 resource_line

unfoldable pub machine_lines : (ℕ → ℕ) → List (List ℕ)
machine_lines g = (100 ∷ []) ∷ listed 100 (machine_line g)

unfoldable pub service_lines : (ℕ → ℕ) → List (List ℕ)
service_lines g = (250 ∷ []) ∷ listed 250 (service_line g)

unfoldable pub process_lines : (ℕ → ℕ) → List (List ℕ)
process_lines g = (1000 ∷ []) ∷ listed 1000 (process_line g)

-- one balance objective: resources 0 and 1, target 2, and its weight; then the weights of moves
unfoldable pub last_lines : List (List ℕ)
last_lines = (1 ∷ []) ∷ (0 ∷ 1 ∷ 2 ∷ []) ∷ (10 ∷ []) ∷ (1 ∷ 10 ∷ 100 ∷ []) ∷ []

-- the model's text over its words
unfoldable pub text_over : (ℕ → ℕ) → List ℕ
text_over g =
    lines_text resource_lines
    ++ lines_text (machine_lines g)
    ++ lines_text (service_lines g)
    ++ lines_text (process_lines g)
    ++ lines_text last_lines

-- the text of the model of a number
unfoldable pub trial_model_text : ℕ → List ℕ
trial_model_text number = text_over (trial_word number)

-- the machine of process p at the start
unfoldable pub start_machine : ℕ → Machine
start_machine p = record { 0 = trial_start_of p }

-- the text of the start, which is the same for each number
unfoldable pub start_text : List ℕ
start_text = assignment_bytes (listed 1000 start_machine)

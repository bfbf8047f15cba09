-- The text of an instance: a line for each count and each item, and two lines for a balance objective. A line is its
-- numbers with one space between two, and LF.
use Rattle.std.specs.Prelude.{◌≡◌, ℕ, List, [], ◌∷◌, ◌++◌, None}
use Rattle.ra_model.specs.declared.raw.Tables.{Tables}
use Rattle.ra_model.specs.Numbers.{resource_count, machine_count, service_count, process_count, balance_count, first_of}
use Rattle.ra_model.specs.Numbers.{second_of, target_of, balance_weight_of, process_weight_of, service_weight_of}
use Rattle.ra_model.specs.Numbers.{machine_weight_of}
use Rattle.ra_model_read.specs.FieldOrder.{end_to_end, resource_numbers, machine_numbers, service_numbers}
use Rattle.ra_model_read.specs.FieldOrder.{process_numbers}
use Rattle.ra_model_read.specs.Lists.{lists_of}
use Rattle.ra_model_text.specs.Lines.{line_text}

-- a count on a line of its own, and the text of each
unfoldable pub group_text : ℕ → (ℕ → List ℕ) → List ℕ
group_text n each = line_text (n ∷ []) ++ end_to_end n each

-- a resource: its transient flag and its load weight
unfoldable pub resource_text : Tables → ℕ → List ℕ
resource_text i r = line_text (resource_numbers i r)

-- a machine: its neighbourhood, its location, its capacities, its safety capacities and its move costs
unfoldable pub machine_text : Tables → ℕ → List ℕ
machine_text i m = line_text (machine_numbers i m)

-- a service: its spread, the number of its dependencies, and the dependencies
unfoldable pub service_text : Tables → ℕ → List ℕ
service_text i s = line_text (service_numbers i s)

-- a process: its service, its requirements and its move cost
unfoldable pub process_text : Tables → ℕ → List ℕ
process_text i p = line_text (process_numbers i p)

-- a balance objective: its two resources and its target, and its weight on the next line
unfoldable pub balance_text : Tables → ℕ → List ℕ
balance_text i b =
    line_text (first_of i b ∷ second_of i b ∷ target_of i b ∷ [])
    ++ line_text (balance_weight_of i b ∷ [])

-- the weights of moves
unfoldable pub weights_text : Tables → List ℕ
weights_text i = line_text (process_weight_of i ∷ service_weight_of i ∷ machine_weight_of i ∷ [])

-- the whole text
unfoldable pub model_text : Tables → List ℕ
model_text i =
    group_text (resource_count i) (resource_text i)
    ++ (group_text (machine_count i) (machine_text i)
    ++ (group_text (service_count i) (service_text i)
    ++ (group_text (process_count i) (process_text i)
    ++ (group_text (balance_count i) (balance_text i)
    ++ weights_text i))))

-- an instance with the numbers of another, and with no machine closed
pub record IsOpenToAll (i opened : Tables) : Type 0 where
  pub lists : lists_of opened.raw ≡ lists_of i.raw
  pub open_to_all : opened.closed ≡ None

-- What the program prints. Each line ends with LF, and numbers are decimal.
use Rattle.std.specs.Prelude.{ℕ, ◌+◌, ◌/◌, ◌^◌, false, List, [], ◌∷◌, ◌++◌, codes}
use Rattle.std.specs.Fmt.{digits_onto}
use Rattle.std.specs.List.{flat_map}
use Rattle.ra_base.specs.declared.causes.Cause.{Cause}
use Rattle.ra_base.specs.declared.causes.Cause.TheVariants.{Repeat, Same, Capacity, Transient, Conflict, Spread, Dependency, Rise, Closed}
use Rattle.ra_base.specs.declared.costs.Parts.{Parts}
use Rattle.ra_base.specs.declared.ids.Machine.{Machine}

-- a space, and the end of a line
abbrev pub space : List ℕ
space = 32 ∷ []

abbrev pub line_end : List ℕ
line_end = 10 ∷ []

-- a number in decimal, without leading zeros; a number below 10 ^ 64 has at most 64 digits
unfoldable pub number_text : ℕ → List ℕ
number_text n = digits_onto (64 + n / 10 ^ 64) 10 false n []

-- a line of a word and a number
abbrev pub number_line : List ℕ → ℕ → List ℕ
number_line word n = word ++ space ++ number_text n ++ line_end

-- the six lines of the parts
unfoldable pub parts_text : Parts → List ℕ
parts_text parts =
    number_line (codes "cost") parts.total
    ++ number_line (codes "load") parts.load
    ++ number_line (codes "balance") parts.balance
    ++ number_line (codes "process") parts.process
    ++ number_line (codes "service") parts.service
    ++ number_line (codes "machine") parts.machine

-- a word and one, two, three or four numbers, one space between two
abbrev pub with_one : List ℕ → ℕ → List ℕ
with_one word a = word ++ space ++ number_text a

abbrev pub with_two : List ℕ → ℕ → ℕ → List ℕ
with_two word a b = with_one word a ++ space ++ number_text b

abbrev pub with_three : List ℕ → ℕ → ℕ → ℕ → List ℕ
with_three word a b c = with_two word a b ++ space ++ number_text c

abbrev pub with_four : List ℕ → ℕ → ℕ → ℕ → ℕ → List ℕ
with_four word a b c d = with_three word a b c ++ space ++ number_text d

-- a cause by its name and its numbers
unfoldable pub cause_text : Cause → List ℕ
cause_text (Repeat process) = with_one (codes "repeat") process.0
cause_text (Same process) = with_one (codes "same") process.0
cause_text (Capacity machine resource used cap) =
    with_four (codes "capacity") machine.0 resource.0 used cap
cause_text (Transient machine resource used cap) =
    with_four (codes "transient") machine.0 resource.0 used cap
cause_text (Conflict service machine) = with_two (codes "conflict") service.0 machine.0
cause_text (Spread service has wants) = with_three (codes "spread") service.0 has wants
cause_text (Dependency service needs neighbourhood) =
    with_three (codes "dependency") service.0 needs.0 neighbourhood
cause_text (Rise allowed before after) = with_three (codes "rise") before after allowed
cause_text (Closed process machine) = with_two (codes "closed") process.0 machine.0

-- the numbers of machines, a space before each
abbrev pub machine_word : Machine → List ℕ
machine_word m = space ++ number_text m.0

unfoldable pub machines_text : List Machine → List ℕ
machines_text ms = flat_map machine_word ms

-- the line of an assignment: the machine of each process, in order
unfoldable pub assignment_line : List Machine → List ℕ
assignment_line a = codes "assignment" ++ machines_text a ++ line_end

-- Assignment files: one token for each process, in their order, the number of its machine.
use Rattle.std.specs.Prelude.{◌≡◌, ℕ, zero, suc, ◌<◌, List, [], ◌∷◌, ◌++◌, length, map, nat_lt, if◌then◌else◌}
use Rattle.std.specs.Prelude.{slice_get, Option, Some, None}
use Rattle.std.specs.List.{All}
use Rattle.std.specs.Fmt.{decimal}
use Rattle.ra_base.specs.Searches.{or_else, first}
use Rattle.ra_base.specs.declared.ids.Machine.{Machine}
use Rattle.ra_token.specs.declared.answers.Token.{Token}
use Rattle.ra_token.specs.declared.answers.TokenFault.{TokenFault}
use Rattle.ra_token.specs.declared.answers.TokenFault.TheVariants as token
use Rattle.ra_token.specs.TokenList.{tokens}
use Rattle.ra_token.specs.Faults.{first_fault}
use Rattle.ra_model.specs.declared.raw.Tables.{Tables}
use Rattle.ra_model.specs.Numbers.{machine_count, process_count}
use Rattle.ra_assign.specs.declared.faults.AssignFault.{AssignFault}
use Rattle.ra_assign.specs.declared.faults.AssignFault.TheVariants.{ReadFault, BadByte, TooLarge, TooLong, Missing}
use Rattle.ra_assign.specs.declared.faults.AssignFault.TheVariants.{NoMachine, Extra, NoMemory}

-- a token's fault, as a fault of an assignment
unfoldable pub assign_fault : TokenFault → AssignFault
assign_fault token.ReadFault = ReadFault
assign_fault (token.BadByte at byte) = BadByte at byte
assign_fault (token.TooLarge at) = TooLarge at
assign_fault token.TooLong = TooLong
assign_fault token.NoMemory = NoMemory

-- if no token is left: the first fault of the file, or else that the machine of process p is missing
unfoldable pub none_left : Option TokenFault → ℕ → AssignFault
none_left None p = Missing (record { 0 = p })
none_left (Some fault) p = assign_fault fault

-- what is wrong with the machine of process p, which is token p
unfoldable pub machine_test : Tables → Option TokenFault → ℕ → Option Token → Option AssignFault
machine_test i fault p None = Some (none_left fault p)
machine_test i fault p (Some t) =
    if nat_lt t.value (machine_count i) then None else Some (NoMachine (record { 0 = p }) t.value)

unfoldable pub process_test : List ℕ → Tables → ℕ → Option AssignFault
process_test bytes i p = machine_test i (first_fault bytes) p (slice_get (tokens bytes) p)

-- what is wrong after the last process: a token, or the first fault of the file
unfoldable pub behind_test : Option TokenFault → Option Token → Option AssignFault
behind_test fault (Some t) = Some (Extra t.at)
behind_test None None = None
behind_test (Some fault) None = Some (assign_fault fault)

unfoldable pub end_test : List ℕ → ℕ → Option AssignFault
end_test bytes n = behind_test (first_fault bytes) (slice_get (tokens bytes) n)

-- the first refusal of an assignment file
unfoldable pub assign_refusal : List ℕ → Tables → Option AssignFault
assign_refusal bytes i =
    or_else (first (process_count i) (process_test bytes i)) (end_test bytes (process_count i))

-- the machine that a token names
abbrev pub machine_of : Token → Machine
machine_of t = record { 0 = t.value }

-- each token names a machine
abbrev pub AllExist : Tables → List Token → Type 0
AllExist i ts = All (λ t. t.value < machine_count i) ts

-- the bytes are an assignment file: they have no fault and a token for each process, and each names a machine
pub record IsAssignmentFile (bytes : List ℕ) (i : Tables) : Type 0 where
  pub sound : first_fault bytes ≡ None
  pub one_each : length (tokens bytes) ≡ process_count i
  pub exist : AllExist i (tokens bytes)

-- the bytes mean this assignment: they are an assignment file, and its machines are the tokens' values
pub record IsAssignmentOf (bytes : List ℕ) (i : Tables) (a : List Machine) : Type 0 where
  pub file : IsAssignmentFile bytes i
  pub machines : a ≡ map machine_of (tokens bytes)

-- the text of machines after others: a space and the number for each, and LF
unfoldable pub more_machines_text : List Machine → List ℕ
more_machines_text [] = 10 ∷ []
more_machines_text (m ∷ ms) = 32 ∷ decimal m.0 ++ more_machines_text ms

-- the text of an assignment: the numbers with one space between two, and LF
unfoldable pub assignment_bytes : List Machine → List ℕ
assignment_bytes [] = 10 ∷ []
assignment_bytes (m ∷ ms) = decimal m.0 ++ more_machines_text ms

-- the text of machine number p of an assignment: a space before each but the first
unfoldable pub assigned_text : ℕ → Machine → List ℕ
assigned_text zero m = decimal m.0
assigned_text (suc p) m = 32 ∷ decimal m.0

-- the text from machine number p on
unfoldable pub text_from : ℕ → List Machine → List ℕ
text_from zero ms = assignment_bytes ms
text_from (suc p) ms = more_machines_text ms

-- Closed lists: any number of tokens, each the number of a machine.
use Rattle.std.specs.Prelude.{◌≡◌, ℕ, ◌<◌, List, length, nat_lt, ◌==◌, if◌then◌else◌, slice_get, slice_index_or, Bool}
use Rattle.std.specs.Prelude.{false, Option, Some, None}
use Rattle.std.specs.List.{list_any}
use Rattle.ra_base.specs.Searches.{or_else, first}
use Rattle.ra_token.specs.declared.answers.Token.{Token}
use Rattle.ra_token.specs.declared.answers.TokenFault.{TokenFault}
use Rattle.ra_token.specs.declared.answers.TokenFault.TheVariants as token
use Rattle.ra_token.specs.TokenList.{tokens}
use Rattle.ra_token.specs.Faults.{first_fault}
use Rattle.ra_model.specs.declared.raw.Tables.{Tables}
use Rattle.ra_model.specs.Numbers.{machine_count}
use Rattle.ra_assign.specs.Lists.{AllExist}
use Rattle.ra_assign.specs.declared.faults.ClosedFault.{ClosedFault}
use Rattle.ra_assign.specs.declared.faults.ClosedFault.TheVariants.{ReadFault, BadByte, TooLarge, TooLong, NoMachine}
use Rattle.ra_assign.specs.declared.faults.ClosedFault.TheVariants.{NoMemory}

-- a token's fault, as a fault of a closed list
unfoldable pub closed_fault : TokenFault → ClosedFault
closed_fault token.ReadFault = ReadFault
closed_fault (token.BadByte at byte) = BadByte at byte
closed_fault (token.TooLarge at) = TooLarge at
closed_fault token.TooLong = TooLong
closed_fault token.NoMemory = NoMemory

-- a token that names no machine
unfoldable pub machine_test : Tables → Option Token → Option ClosedFault
machine_test i None = None
machine_test i (Some t) =
    if nat_lt t.value (machine_count i) then None else Some (NoMachine t.at t.value)

unfoldable pub token_test : List ℕ → Tables → ℕ → Option ClosedFault
token_test bytes i k = machine_test i (slice_get (tokens bytes) k)

-- the first fault of the file
unfoldable pub file_fault : Option TokenFault → Option ClosedFault
file_fault None = None
file_fault (Some fault) = Some (closed_fault fault)

-- the first refusal of a closed list
unfoldable pub closed_refusal : List ℕ → Tables → Option ClosedFault
closed_refusal bytes i =
    or_else (first (length (tokens bytes)) (token_test bytes i)) (file_fault (first_fault bytes))

-- whether one of the tokens names machine m
abbrev pub names_machine : List Token → ℕ → Bool
names_machine ts m = list_any (λ t. t.value == m) ts

-- the bytes are a closed list: they have no fault, and each token names a machine
pub record IsClosedFile (bytes : List ℕ) (i : Tables) : Type 0 where
  pub sound : first_fault bytes ≡ None
  pub exist : AllExist i (tokens bytes)

-- the bytes mean these flags: they are a closed list, there is a flag for each machine, and it says whether a token
-- names it
pub record IsClosedOf (bytes : List ℕ) (i : Tables) (flags : List Bool) : Type 0 where
  pub file : IsClosedFile bytes i
  pub one_each : length flags ≡ machine_count i
  pub named : (m : ℕ) → m < machine_count i
      → slice_index_or flags m false ≡ names_machine (tokens bytes) m

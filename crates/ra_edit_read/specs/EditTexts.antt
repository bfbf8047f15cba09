-- Files of edits. An edit is a kind and the numbers after it: 1, a service, a machine, a requirement for each resource
-- and a move cost add a process; 2 and a process retire it; 3, a process and a requirement for each resource resize it.
use Rattle.std.specs.Prelude.{◌≡◌, ℕ, zero, suc, ◌+◌, ◌-◌, ◌<◌, ◌≤◌, ◌==◌, ◌&&◌, nat_lt, if◌then◌else◌, List, [], ◌∷◌}
use Rattle.std.specs.Prelude.{◌++◌, length, replicate, slice_get, slice_index_or, Option, Some, None}
use Rattle.ra_base.specs.Searches.{or_else, first}
use Rattle.ra_token.specs.declared.answers.Token.{Token}
use Rattle.ra_token.specs.declared.answers.TokenFault.{TokenFault}
use Rattle.ra_token.specs.declared.answers.TokenFault.TheVariants as token
use Rattle.ra_token.specs.TokenList.{tokens}
use Rattle.ra_token.specs.Values.{values_from}
use Rattle.ra_token.specs.Faults.{first_fault}
use Rattle.ra_model.specs.declared.raw.Tables.{Tables}
use Rattle.ra_model.specs.Numbers.{resource_count, machine_count, service_count}
use Rattle.ra_edit_read.specs.declared.edits.Edit.{Edit}
use Rattle.ra_edit_read.specs.declared.edits.Edit.TheVariants.{Add, Retire, Resize}
use Rattle.ra_edit_read.specs.declared.faults.EditsFault.{EditsFault}
use Rattle.ra_edit_read.specs.declared.faults.EditsFault.TheVariants.{ReadFault, BadByte, TooLarge, TooLong, Missing}
use Rattle.ra_edit_read.specs.declared.faults.EditsFault.TheVariants.{Range, TooMany, NoMemory}
use Rattle.ra_edit_read.specs.EditLists.{EditLists, FitsInstance}

-- what token n is worth, and zero past the last one
unfoldable pub token_value_at : List ℕ → ℕ → ℕ
token_value_at bytes n = (slice_index_or (tokens bytes) n (record { value = 0; at = 0 })).value

-- how many numbers follow the kind of an edit, if there are R resources
unfoldable pub numbers_behind : ℕ → ℕ → ℕ
numbers_behind R kind = if kind == 1 then R + 3 else if kind == 2 then 1 else R + 1

-- the token that is the kind of edit k
unfoldable pub kind_place : ℕ → List ℕ → ℕ → ℕ
kind_place R bytes zero = 0
kind_place R bytes (suc k) =
    kind_place R bytes k + suc (numbers_behind R (token_value_at bytes (kind_place R bytes k)))

-- the edit of a kind whose numbers begin with token n, and its requirements
unfoldable pub edit_from : ℕ → List ℕ → ℕ → ℕ → Edit
edit_from R bytes kind n =
    if kind == 1
    then Add (record { 0 = token_value_at bytes n }) (record { 0 = token_value_at bytes (n + 1) })
    (token_value_at bytes (n + 2 + R))
    else if kind == 2 then Retire (token_value_at bytes n)
    else Resize (token_value_at bytes n)

unfoldable pub requirements_from : ℕ → List ℕ → ℕ → ℕ → List ℕ
requirements_from R bytes kind n =
    if kind == 1 then values_from bytes (n + 2) R
    else if kind == 2 then replicate R 0
    else values_from bytes (n + 1) R

-- the first k edits, and the rows of their requirements
unfoldable pub edits_to : ℕ → List ℕ → ℕ → List Edit
edits_to R bytes zero = []
edits_to R bytes (suc k) =
    edits_to R bytes k
    ++ edit_from R bytes (token_value_at bytes (kind_place R bytes k)) (suc (kind_place R bytes k)) ∷ []

unfoldable pub requirements_to : ℕ → List ℕ → ℕ → List ℕ
requirements_to R bytes zero = []
requirements_to R bytes (suc k) =
    requirements_to R bytes k
    ++ requirements_from R bytes (token_value_at bytes (kind_place R bytes k))
    (suc (kind_place R bytes k))

-- the kind of edit k, and the edit
abbrev pub edit_kind_of : ℕ → List ℕ → ℕ → ℕ
edit_kind_of R bytes k = token_value_at bytes (kind_place R bytes k)

abbrev pub edit_of : ℕ → List ℕ → ℕ → Edit
edit_of R bytes k = edit_from R bytes (edit_kind_of R bytes k) (suc (kind_place R bytes k))

-- edit k is valid: its kind is 1, 2 or 3, and the service and the machine of an added process exist
pub record IsEdit (bytes : List ℕ) (i : Tables) (k : ℕ) : Type 0 where
  pub least : 1 ≤ edit_kind_of (resource_count i) bytes k
  pub most : edit_kind_of (resource_count i) bytes k ≤ 3
  pub fits : FitsInstance i (edit_of (resource_count i) bytes k)

-- the bytes are a file of `count` edits, 100,000 at most: they have no fault, each edit is valid, and no token follows
-- the last one
pub record IsEditsFile (bytes : List ℕ) (i : Tables) (count : ℕ) : Type 0 where
  pub sound : first_fault bytes ≡ None
  pub few : count ≤ 100000
  pub each : (k : ℕ) → k < count → IsEdit bytes i k
  pub all : kind_place (resource_count i) bytes count ≡ length (tokens bytes)

-- a token's fault, as a fault of edits
unfoldable pub edits_fault : TokenFault → EditsFault
edits_fault token.ReadFault = ReadFault
edits_fault (token.BadByte at byte) = BadByte at byte
edits_fault (token.TooLarge at) = TooLarge at
edits_fault token.TooLong = TooLong
edits_fault token.NoMemory = NoMemory

-- if no token is left inside edit k: the first fault of the file, or else that the rest of the edit is missing
unfoldable pub none_left_in_edit : Option TokenFault → ℕ → EditsFault
none_left_in_edit None k = Missing k
none_left_in_edit (Some fault) k = edits_fault fault

-- what is wrong with a number of edit k that may have any value, and with one that has to be below a count
unfoldable pub any_test : Option TokenFault → ℕ → Option Token → Option EditsFault
any_test fault k None = Some (none_left_in_edit fault k)
any_test fault k (Some t) = None

unfoldable pub below_test : Option TokenFault → ℕ → ℕ → Option Token → Option EditsFault
below_test fault k count None = Some (none_left_in_edit fault k)
below_test fault k count (Some t) =
    if nat_lt t.value count then None else Some (Range t.at t.value 0 (count - 1))

-- what is wrong with token n of a file as a number of edit k, and with the R numbers from token n on
unfoldable pub any_at : List ℕ → ℕ → ℕ → Option EditsFault
any_at bytes k n = any_test (first_fault bytes) k (slice_get (tokens bytes) n)

unfoldable pub below_at : List ℕ → ℕ → ℕ → ℕ → Option EditsFault
below_at bytes k count n = below_test (first_fault bytes) k count (slice_get (tokens bytes) n)

unfoldable pub any_from : List ℕ → ℕ → ℕ → ℕ → Option EditsFault
any_from bytes k n R = first R (λ j. any_at bytes k (n + j))

-- the first thing that is wrong with the numbers after the kind, which begin with token n
unfoldable pub added_test : List ℕ → Tables → ℕ → ℕ → Option EditsFault
added_test bytes i k n =
    or_else (below_at bytes k (service_count i) n)
    (or_else (below_at bytes k (machine_count i) (n + 1))
    (or_else (any_from bytes k (n + 2) (resource_count i))
    (any_at bytes k (n + 2 + resource_count i))))

unfoldable pub resized_test : List ℕ → Tables → ℕ → ℕ → Option EditsFault
resized_test bytes i k n = or_else (any_at bytes k n) (any_from bytes k (n + 1) (resource_count i))

unfoldable pub numbers_test : List ℕ → Tables → ℕ → ℕ → ℕ → Option EditsFault
numbers_test bytes i k kind n =
    if kind == 1 then added_test bytes i k n
    else if kind == 2 then any_at bytes k n
    else resized_test bytes i k n

-- what is wrong with the kind of edit k: there may be 100,000 edits, and a kind is 1, 2 or 3
unfoldable pub kind_test : ℕ → Token → Option EditsFault
kind_test k t =
    if nat_lt k 100000
    then (if nat_lt 0 t.value && nat_lt t.value 4 then None else Some (Range t.at t.value 1 3))
    else Some (TooMany t.at)

-- what is wrong with edit k, whose kind is token n if there is one; if there is none, the file has ended
unfoldable pub found_test : List ℕ → Tables → ℕ → ℕ → Option Token → Option EditsFault
found_test bytes i k n None = None
found_test bytes i k n (Some t) = or_else (kind_test k t) (numbers_test bytes i k t.value (suc n))

unfoldable pub edit_test : List ℕ → Tables → ℕ → Option EditsFault
edit_test bytes i k =
    found_test bytes i k (kind_place (resource_count i) bytes k)
    (slice_get (tokens bytes) (kind_place (resource_count i) bytes k))

-- the first fault of the file
unfoldable pub edits_file_fault : Option TokenFault → Option EditsFault
edits_file_fault None = None
edits_file_fault (Some fault) = Some (edits_fault fault)

-- the first refusal of a file of edits, in which there may be 100,000
unfoldable pub edits_refusal : List ℕ → Tables → Option EditsFault
edits_refusal bytes i =
    or_else (first 100001 (edit_test bytes i)) (edits_file_fault (first_fault bytes))

-- the bytes mean these edits: they are a file of edits, and these are all of them in their order
pub record AreEditsOf (bytes : List ℕ) (i : Tables) (e : EditLists) : Type 0 where
  pub count : ℕ
  pub file : IsEditsFile bytes i count
  pub width : e.width ≡ resource_count i
  pub edits : e.edits ≡ edits_to (resource_count i) bytes count
  pub requirements : e.requirements ≡ requirements_to (resource_count i) bytes count

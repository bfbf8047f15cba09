-- What holds on the way through a file of edits.
use Rattle.std.specs.Prelude.{◌≡◌, ℕ, suc, ◌+◌, ◌*◌, ◌≤◌, List, [], ◌++◌, length, slice_get, Option, Some, None, Result}
use Rattle.std.specs.Prelude.{Ok, IfSome, IfOk, OnOk, OnSome}
use Rattle.ra_base.specs.Searches.{first}
use Rattle.ra_base.specs.declared.lists.Fixed.{Fixed}
use Rattle.ra_token.specs.declared.answers.Token.{Token}
use Rattle.ra_token.specs.TokenList.{tokens, tokens_before, IsAnswer}
use Rattle.ra_token.specs.Values.{values_from}
use Rattle.ra_model.specs.declared.raw.Tables.{Tables}
use Rattle.ra_model.specs.Numbers.{resource_count}
use Rattle.ra_edit_read.specs.declared.edits.Edit.{Edit}
use Rattle.ra_edit_read.specs.declared.faults.EditsFault.{EditsFault}
use Rattle.ra_edit_read.specs.Answers.{IsEditsRefusal}
use Rattle.ra_edit_read.specs.EditLists.{AllFit, FitsInstance}
use Rattle.ra_edit_read.specs.EditTexts.{token_value_at, numbers_behind, kind_place, edit_from, requirements_from}
use Rattle.ra_edit_read.specs.EditTexts.{edits_to}
use Rattle.ra_edit_read.specs.EditTexts.{requirements_to, numbers_test, edit_test, found_test, AreEditsOf}

-- the next token was taken, and is worth this
pub record TakesNumber (bytes : List ℕ) (before after value : ℕ) : Type 0 where
  pub token : Token
  pub found : slice_get (tokens bytes) (tokens_before bytes before) ≡ Some token
  pub worth : value ≡ token.value
  pub next : tokens_before bytes after ≡ tokens_before bytes before + 1

-- the next n tokens were taken, and their values were added at the end of a list
pub record TakesValues (bytes : List ℕ) (before after n : ℕ) (old new : List ℕ) : Type 0 where
  pub there : tokens_before bytes before + n ≤ length (tokens bytes)
  pub values : new ≡ old ++ values_from bytes (tokens_before bytes before) n
  pub next : tokens_before bytes after ≡ tokens_before bytes before + n

-- the numbers after the kind of edit k were taken
pub record TakesEdit (bytes : List ℕ) (i : Tables) (k kind before after : ℕ) (old new : List ℕ)
    (edit : Edit) : Type 0 where
  pub sound : numbers_test bytes i k kind (tokens_before bytes before) ≡ None
  pub edit_is : edit ≡ edit_from (resource_count i) bytes kind (tokens_before bytes before)
  pub rows :
      new ≡ old ++ requirements_from (resource_count i) bytes kind (tokens_before bytes before)
  pub next :
      tokens_before bytes after ≡ tokens_before bytes before + numbers_behind (resource_count i)
      kind

-- edit k was taken, with its kind
pub record HasEdit (bytes : List ℕ) (i : Tables) (k before after : ℕ) (old new : List ℕ)
    (edit : Edit) : Type 0 where
  pub sound :
      found_test bytes i k (tokens_before bytes before)
      (slice_get (tokens bytes) (tokens_before bytes before)) ≡ None
  pub edit_is :
      edit ≡ edit_from (resource_count i) bytes (token_value_at bytes (tokens_before bytes before))
      (suc (tokens_before bytes before))
  pub rows :
      new ≡ old ++ requirements_from (resource_count i) bytes
      (token_value_at bytes (tokens_before bytes before)) (suc (tokens_before bytes before))
  pub next :
      tokens_before bytes after ≡ tokens_before bytes before + suc
      (numbers_behind (resource_count i) (token_value_at bytes (tokens_before bytes before)))

-- the next edit, or the end of the file
abbrev pub NextEdit : List ℕ → Tables → ℕ → ℕ → ℕ → List ℕ → List ℕ → Option Edit → Type 0
NextEdit bytes i k before after old new None =
    IsAnswer bytes (tokens_before bytes before) (Ok None) × (new ≡ old)
NextEdit bytes i k before after old new (Some edit) = HasEdit bytes i k before after old new edit

-- the first k edits were taken
pub record HasTakenEdits (bytes : List ℕ) (i : Tables) (place k : ℕ) (edits : List Edit)
    (requirements : List ℕ) : Type 0 where
  pub given : tokens_before bytes place ≡ kind_place (resource_count i) bytes k
  pub sound : first k (edit_test bytes i) ≡ None
  pub edits_are : edits ≡ edits_to (resource_count i) bytes k
  pub requirements_are : requirements ≡ requirements_to (resource_count i) bytes k

-- the fault is the refusal of the file, if the edits before edit k were sound and its kind comes next
abbrev pub EditStop : List ℕ → Tables → ℕ → ℕ → EditsFault → Type 0
EditStop bytes i k before fault =
    tokens_before bytes before ≡ kind_place (resource_count i) bytes k
    → first k (edit_test bytes i) ≡ None → IsEditsRefusal bytes i fault

-- no token and no fault is left
pub record EditsHaveEnded (bytes : List ℕ) (place : ℕ) : Type 0 where
  pub answer : IsAnswer bytes (tokens_before bytes place) (Ok None)

-- the lists are all edits of the bytes, whatever their type
pub record AreAllEdits (bytes : List ℕ) (i : Tables) (edits : List Edit) (requirements : List ℕ) : Type
    0 where
  pub lists :
      AreEditsOf bytes i
      (record { width = resource_count i; edits = edits; requirements = requirements })

-- a list has room for what one more edit requires
abbrev pub HasRowRoom : Tables → Fixed ℕ → Type 0
HasRowRoom i list = length list.items + resource_count i ≤ list.room

-- an edit was read that fits the instance, and a requirement for each resource was added to a list
pub record AddsRequirements (i : Tables) (old new : Fixed ℕ) (answer : Result Edit EditsFault) : Type 0 where
  pub number : OnOk answer (length new.items ≡ length old.items + resource_count i)
  pub room : OnOk answer (new.room ≡ old.room)
  pub fits : IfOk answer (FitsInstance i)

-- an edit was read that fits the instance, and its row was added to a list; or the file ended, and nothing was added
pub record MayAddRow (i : Tables) (old new : Fixed ℕ) (answer : Result (Option Edit) EditsFault) : Type
    0 where
  pub number :
      IfOk answer (λ next. OnSome next (length new.items ≡ length old.items + resource_count i))
  pub same : answer ≡ Ok None → new.items ≡ old.items
  pub room : OnOk answer (new.room ≡ old.room)
  pub fits : IfOk answer (λ next. IfSome next (FitsInstance i))

-- at most 100,000 edits were read, each of which fits the instance, with a requirement for each resource
pub record AreFew (i : Tables) (edits : List Edit) (requirements : List ℕ) : Type 0 where
  pub few : length edits ≤ 100000
  pub rows : length requirements ≡ length edits * resource_count i
  pub fits : AllFit i edits

-- two empty lists, with room for 100,000 edits and their requirements
pub record AreEmpty (i : Tables) (edits : Fixed Edit) (requirements : Fixed ℕ) : Type 0 where
  pub no_edits : edits.items ≡ []
  pub no_requirements : requirements.items ≡ []
  pub edits_room : edits.room ≡ 100000
  pub requirements_room : requirements.room ≡ 100000 * resource_count i

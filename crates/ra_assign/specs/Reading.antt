-- What holds on the way through a list.
use Rattle.std.specs.Prelude.{◌≡◌, ℕ, ◌+◌, ◌<◌, List, map, take, slice_get, slice_index_or, Bool, false, Option, Some}
use Rattle.std.specs.Prelude.{None, Ok}
use Rattle.ra_base.specs.Searches.{first}
use Rattle.ra_base.specs.declared.ids.Machine.{Machine}
use Rattle.ra_token.specs.declared.answers.Token.{Token}
use Rattle.ra_token.specs.TokenList.{tokens, tokens_before, IsAnswer, GaveAll}
use Rattle.ra_model.specs.declared.raw.Tables.{Tables}
use Rattle.ra_model.specs.Numbers.{machine_count}
use Rattle.ra_assign.specs.declared.faults.ClosedFault.{ClosedFault}
use Rattle.ra_assign.specs.Answers.{IsClosedRefusal}
use Rattle.ra_assign.specs.Lists.{process_test, machine_of, end_test}
use Rattle.ra_assign.specs.ClosedLists.{token_test, names_machine}

-- token n is the machine of process p, and it exists
pub record TakesMachine (bytes : List ℕ) (i : Tables) (before after : ℕ) (m : Machine) : Type 0
  where
    pub token : Token
    pub found : slice_get (tokens bytes) (tokens_before bytes before) ≡ Some token
    pub machine : m ≡ machine_of token
    pub tested : process_test bytes i (tokens_before bytes before) ≡ None
    pub next : tokens_before bytes after ≡ tokens_before bytes before + 1

-- the first n tokens were taken as the machines of the first n processes
pub record HasTakenMachines (bytes : List ℕ) (i : Tables) (place n : ℕ) (a : List Machine) : Type 0 where
  pub given : tokens_before bytes place ≡ n
  pub sound : first n (process_test bytes i) ≡ None
  pub machines : a ≡ map machine_of (take n (tokens bytes))

-- no token and no fault is left
pub record HasEnded (bytes : List ℕ) (place : ℕ) : Type 0 where
  pub all : GaveAll bytes (tokens_before bytes place)
  pub sound : end_test bytes (tokens_before bytes place) ≡ None

-- token n names a machine that exists
pub record TakesClosed (bytes : List ℕ) (i : Tables) (before after : ℕ) (m : Machine) : Type 0 where
  pub token : Token
  pub found : slice_get (tokens bytes) (tokens_before bytes before) ≡ Some token
  pub machine : m ≡ machine_of token
  pub tested : token_test bytes i (tokens_before bytes before) ≡ None
  pub next : tokens_before bytes after ≡ tokens_before bytes before + 1

-- the tokens up to a place name machines, and the flags say which
pub record HasFlagged (bytes : List ℕ) (i : Tables) (place : ℕ) (flags : List Bool) : Type 0 where
  pub sound : first (tokens_before bytes place) (token_test bytes i) ≡ None
  pub named : (m : ℕ) → m < machine_count i
      → slice_index_or flags m false
      ≡ names_machine (take (tokens_before bytes place) (tokens bytes)) m

-- the next machine of a closed list, or its end
abbrev pub ClosedNext : List ℕ → Tables → ℕ → ℕ → Option Machine → Type 0
ClosedNext bytes i before after (Some m) = TakesClosed bytes i before after m
ClosedNext bytes i before after None = IsAnswer bytes (tokens_before bytes before) (Ok None)

-- the fault is the refusal of the list, if the tokens before were sound
abbrev pub ClosedStop : List ℕ → Tables → ℕ → ClosedFault → Type 0
ClosedStop bytes i before fault =
    (flags : List Bool) → HasFlagged bytes i before flags → IsClosedRefusal bytes i fault

-- n tokens were taken and flagged
pub record HasFlaggedFirst (bytes : List ℕ) (i : Tables) (place n : ℕ) (flags : List Bool) : Type 0
  where
    pub flagged : HasFlagged bytes i place flags
    pub given : tokens_before bytes place ≡ n

-- What is known from one moment of a reading to a later one.
use Rattle.std.specs.Prelude.{◌≡◌, ℕ, ◌+◌, List, Option, ◌≤◌, Ok, Err, IfSome, OnSome}
use Rattle.ra_io.specs.declared.outside.Files as files
use Rattle.ra_io.specs.Faults.{Rose}
use Rattle.ra_token.specs.declared.answers.Token.{Token}
use Rattle.ra_token.specs.declared.answers.TokenFault.{TokenFault}
use Rattle.ra_token.specs.Reads.{Reads}
use Rattle.ra_token.specs.Standing.{Standing}
use Rattle.ra_token.specs.TokenList.{tokens, tokens_before, IsAnswer}

-- the files and a reader at one moment
pub record Here : Type 0 where
  pub held : List ℕ → Option (List ℕ)
  pub faults : List ℕ → ℕ
  pub tokens : Standing

abbrev pub here : (List ℕ → Option (List ℕ)) → (List ℕ → ℕ) → Standing → Here
here held faults tokens = record { held = held; faults = faults; tokens = tokens }

-- the files and a reader at one moment, from what is told of the files, which is `F.Files` in a clause
abbrev pub moment : {F : Type 0} → files.Ghosts F → F → Standing → Here
moment told lent tokens = here (told.held lent) (told.faults lent) tokens

-- the reader is in the bytes of its file, if they are told
abbrev pub Stands : Here → Type 0
Stands a = Reads (a.held a.tokens.name) a.tokens

-- what every call leaves: the reader reads the same file, the files hold what they held, and no count fell
pub record Goes (a b : Here) : Type 0 where
  pub name : b.tokens.name ≡ a.tokens.name
  pub stands : Stands b
  pub kept : (other : List ℕ) → b.held other ≡ a.held other
  pub never_fall : (other : List ℕ) → a.faults other ≤ b.faults other

-- on the way from one moment to another, this holds of the bytes and the two places, if the bytes are told
pub record Went (means : List ℕ → ℕ → ℕ → Type 0) (a b : Here) : Type 0 where
  pub goes : Goes a b
  pub told : IfSome (a.held a.tokens.name) (λ bytes. means bytes a.tokens.place b.tokens.place)

-- a refusal: a failed fetch was counted, and this holds of the bytes and the place before, if the bytes are told
pub record Refuses {E : Type 0} (read : E) (means : List ℕ → ℕ → Type 0) (a b : Here) (fault : E) :
    Type 0 where
  pub goes : Goes a b
  pub rose : fault ≡ read → Rose (a.faults a.tokens.name) (b.faults a.tokens.name)
  pub told : IfSome (a.held a.tokens.name) (λ bytes. means bytes a.tokens.place)

-- the next token, or none if all were given and the file has no fault
pub record HasNext (bytes : List ℕ) (before after : ℕ) (next : Option Token) : Type 0 where
  pub answer : IsAnswer bytes (tokens_before bytes before) (Ok next)
  pub one_more : OnSome next (tokens_before bytes after ≡ tokens_before bytes before + 1)

-- a fault of the tokens, under another name
pub record HasFault {E : Type 0} (renamed : TokenFault → E) (bytes : List ℕ) (place : ℕ) (fault : E)
    : Type 0 where
  pub token_fault : TokenFault
  pub same : fault ≡ renamed token_fault
  pub answer : IsAnswer bytes (tokens_before bytes place) (Err token_fault)

-- A small language of formats: what a list of numbers means, field after field, or the first thing that is wrong.
use Rattle.std.specs.Prelude.{ℕ, zero, suc, ◌+◌, ◌&&◌, nat_le, if◌then◌else◌, List, [], ◌∷◌, ◌++◌, Bool, true, false}
use Rattle.std.specs.Prelude.{Option, Some, None}
use Rattle.ra_token.specs.declared.answers.Token.{Token}
use Rattle.ra_token.specs.declared.answers.TokenFault.{TokenFault}
use Rattle.ra_token.specs.declared.answers.TokenFault.TheVariants as told
use Rattle.ra_model_read.specs.declared.faults.Field.{Field}
use Rattle.ra_model_read.specs.declared.faults.Field.TheVariants.{Transient}
use Rattle.ra_model_read.specs.declared.faults.ModelFault.{ModelFault}
use Rattle.ra_model_read.specs.declared.faults.ModelFault.TheVariants.{ReadFault, BadByte, TooLarge, TooLong, Missing}
use Rattle.ra_model_read.specs.declared.faults.ModelFault.TheVariants.{Range, Flag, Extra, NoMemory}

-- what is left of a file: its tokens, and the fault after them, if there is one
pub record Left : Type 0 where
  pub tokens : List Token
  pub fault : Option TokenFault

-- what a format makes of it: a value with what is left after it, or the one refusal
pub data Outcome (X : Type 0) : Type 0 where
  Read : X → Left → Outcome X
  Refused : ModelFault → Outcome X

abbrev pub Format : Type 0 → Type 0
Format X = Left → Outcome X

-- takes no token, and gives a value
unfoldable pub pure : {X : Type 0} → X → Format X
pure x left = Read x left

-- takes no token, and refuses
unfoldable pub refuse : {X : Type 0} → ModelFault → Format X
refuse fault left = Refused fault

unfoldable pub go_on : {X Y : Type 0} → Outcome X → (X → Format Y) → Outcome Y
go_on (Read x left) next = next x left
go_on (Refused fault) next = Refused fault

-- one format and then the next, which may depend on the first one's value
infixl 10 ◌>>=◌
unfoldable pub ◌>>=◌ : {X Y : Type 0} → Format X → (X → Format Y) → Format Y
(f >>= next) left = go_on (f left) next

-- the fault of a token, as a fault of a model
unfoldable pub token_fault : TokenFault → ModelFault
token_fault told.ReadFault = ReadFault
token_fault (told.BadByte at byte) = BadByte at byte
token_fault (told.TooLarge at) = TooLarge at
token_fault told.TooLong = TooLong
token_fault told.NoMemory = NoMemory

-- the refusal at the end of the tokens: the fault that comes there, and else this one
unfoldable pub fault_or : Option TokenFault → ModelFault → ModelFault
fault_or None otherwise = otherwise
fault_or (Some fault) otherwise = token_fault fault

-- the next token, which is a field with an item number
unfoldable pub take_token : Field → ℕ → Option TokenFault → List Token → Outcome Token
take_token what item fault [] = Refused (fault_or fault (Missing what item))
take_token what item fault (token ∷ rest) = Read token (record { tokens = rest; fault = fault })

unfoldable pub next_token : Field → ℕ → Format Token
next_token what item left = take_token what item left.fault left.tokens

-- a field of any value
unfoldable pub any : Field → ℕ → Format ℕ
any what item = next_token what item >>= λ t. pure t.value

-- a value that has to be from least to most
unfoldable pub limited : Field → ℕ → ℕ → Token → Format ℕ
limited what least most t =
    if nat_le least t.value && nat_le t.value most then pure t.value
    else refuse (Range what t.at t.value least most)

unfoldable pub field : Field → ℕ → ℕ → ℕ → Format ℕ
field what item least most = next_token what item >>= limited what least most

-- a value that has to be 0 or 1
unfoldable pub flag_value : ℕ → ModelFault → Format Bool
flag_value zero fault = pure false
flag_value (suc zero) fault = pure true
flag_value (suc (suc more)) fault = refuse fault

-- whether resource r is transient
unfoldable pub flag : ℕ → Format Bool
flag r = next_token Transient r >>= λ t. flag_value t.value (Flag t.at t.value)

-- step 0 to step (n - 1), each given what those before it made
unfoldable pub along : {X : Type 0} → ℕ → (ℕ → X → Format X) → X → Format X
along zero step so_far = pure so_far
along (suc n) step so_far = along n step so_far >>= step n

-- one more field of any value, after those so far
unfoldable pub number_more : Field → ℕ → ℕ → List ℕ → Format (List ℕ)
number_more what first k so_far = any what (first + k) >>= λ x. pure (so_far ++ x ∷ [])

-- n fields of any value with the item numbers first, first + 1 ..
unfoldable pub numbers : Field → ℕ → ℕ → List ℕ → Format (List ℕ)
numbers what first n so_far = along n (number_more what first) so_far

-- the end of the file
unfoldable pub take_end : Option TokenFault → List Token → Outcome (Unit {0})
take_end None [] = Read tt (record { tokens = []; fault = None })
take_end (Some fault) [] = Refused (token_fault fault)
take_end fault (token ∷ rest) = Refused (Extra token.at)

unfoldable pub ends : Format (Unit {0})
ends left = take_end left.fault left.tokens

-- What a buffer finds in a file from a place on, and what it leaves.
use Rattle.std.specs.Prelude.{◌≡◌, ℕ, ◌<◌, ◌≤◌, List, Option, None, Result, Ok, Err, IfSome, IfNone, IfOk, IfErr, OnErr, OnSome, length, ◌+◌, ◌-◌, slice_get}
use Rattle.ra_io.specs.Faults.{Rose}
use Rattle.ra_base.specs.Listed.{Listed}
use Rattle.ra_token.specs.declared.answers.Token.{Token}
use Rattle.ra_token.specs.declared.answers.TokenFault.{TokenFault}
use Rattle.ra_token.specs.declared.answers.TokenFault.TheVariants.{ReadFault, NoMemory}
use Rattle.ra_token.specs.declared.buffer.Run.{Run}
use Rattle.ra_token.specs.declared.buffer.Buffer.{Buffer}
use Rattle.ra_token.specs.TokenList.{tokens_before, IsAnswer}
use Rattle.ra_token.specs.Reads.{Reads}
use Rattle.ra_token.specs.Standing.{Standing}
use Rattle.ra_token.specs.Values.{AddsValues}
use Rattle.ra_token.specs.Scan.{Shows, Covers, ready_byte, Begins, IsTaken, IsNext, FaultsAt}

-- what the files hold and how often reading failed, before a call and after it
pub record Outside : Type 0 where
  pub held : List ℕ → Option (List ℕ)
  pub held_after : List ℕ → Option (List ℕ)
  pub faults : List ℕ → ℕ
  pub faults_after : List ℕ → ℕ

abbrev pub outside : (List ℕ → Option (List ℕ)) → (List ℕ → Option (List ℕ)) → (List ℕ → ℕ)
    → (List ℕ → ℕ) → Outside
outside held held_after faults faults_after =
    record {
      held = held;
      held_after = held_after;
      faults = faults;
      faults_after = faults_after;
    }

-- the byte at a place, which the buffer then holds ready, or none past the end
pub record ReadsByte (o : Outside) (name : List ℕ) (at : ℕ) (after : Buffer)
    (said : Result (Option ℕ) TokenFault) : Type 0 where
  pub shows : Shows (o.held_after name) after
  pub byte : IfSome (o.held name) (λ bytes. IfOk said (λ read. read ≡ slice_get bytes at))
  pub covers : IfOk said (λ read. IfSome read (λ _. at < 536870912 → Covers after at))
  pub ready : IfOk said (λ read. IfSome read (λ x. at < 536870912 → ready_byte after at ≡ x))
  pub cause : IfErr said (λ failed. failed ≡ ReadFault)
  pub fault : OnErr said (Rose (o.faults name) (o.faults_after name))
  pub kept : (other : List ℕ) → o.held_after other ≡ o.held other
  pub never_fall : (other : List ℕ) → o.faults other ≤ o.faults_after other

-- the next run from a place on, with the place of its first digit; none at the end; or the first fault
pub record FindsRun (o : Outside) (name : List ℕ) (from : ℕ) (after : Buffer)
    (said : Result (Option (ℕ × Run)) TokenFault) : Type 0 where
  pub shows : Shows (o.held_after name) after
  pub next : IfSome (o.held name) (λ bytes.
      IfOk said (λ found. IfSome found (λ run. IsNext bytes from run.0 run.1.end run.1.value)))
  pub ended : IfSome (o.held name) (λ bytes.
      IfOk said (λ found. IfNone found (IsAnswer bytes (tokens_before bytes from) (Ok None))))
  pub refused : IfSome (o.held name) (λ bytes. IfErr said (FaultsAt bytes from))
  pub place : IfOk said (λ found. IfSome found (λ run. run.1.end ≤ 536870912))
  pub small : IfOk said (λ found. IfSome found (λ run. run.1.value ≤ 4294967295))
  pub memory : said ≡ Err NoMemory → ⊥
  pub fault : said ≡ Err ReadFault → Rose (o.faults name) (o.faults_after name)
  pub kept : (other : List ℕ) → o.held_after other ≡ o.held other
  pub never_fall : (other : List ℕ) → o.faults other ≤ o.faults_after other

-- where the next run begins, from a place on; none at the end; or the first fault
pub record FindsDigit (o : Outside) (name : List ℕ) (from : ℕ) (after : Buffer)
    (said : Result (Option ℕ) TokenFault) : Type 0 where
  pub shows : Shows (o.held_after name) after
  pub begins : IfSome (o.held name) (λ bytes.
      IfOk said (λ found. IfSome found (λ at. Begins bytes from at)))
  pub ended : IfSome (o.held name) (λ bytes.
      IfOk said (λ found. IfNone found (IsAnswer bytes (tokens_before bytes from) (Ok None))))
  pub refused : IfSome (o.held name) (λ bytes. IfErr said (FaultsAt bytes from))
  pub low : IfOk said (λ found. IfSome found (λ at. at < 536870912))
  pub memory : said ≡ Err NoMemory → ⊥
  pub fault : said ≡ Err ReadFault → Rose (o.faults name) (o.faults_after name)
  pub kept : (other : List ℕ) → o.held_after other ≡ o.held other
  pub never_fall : (other : List ℕ) → o.faults other ≤ o.faults_after other

-- the run that begins at a place, or the first fault
pub record EndsRun (o : Outside) (name : List ℕ) (first : ℕ) (after : Buffer)
    (said : Result Run TokenFault) : Type 0 where
  pub shows : Shows (o.held_after name) after
  pub taken : IfSome (o.held name) (λ bytes.
      IfOk said (λ run. IsTaken bytes first run.end run.value))
  pub refused : IfSome (o.held name) (λ bytes. IfErr said (FaultsAt bytes first))
  pub place : IfOk said (λ run. run.end ≤ 536870912)
  pub small : IfOk said (λ run. run.value ≤ 4294967295)
  pub memory : said ≡ Err NoMemory → ⊥
  pub fault : said ≡ Err ReadFault → Rose (o.faults name) (o.faults_after name)
  pub kept : (other : List ℕ) → o.held_after other ≡ o.held other
  pub never_fall : (other : List ℕ) → o.faults other ≤ o.faults_after other

-- the next token, and none if all were given and the file has no fault; or the first fault, if the tokens before it
-- were given, or a failed fetch. A call that gives no token loses nothing
pub record GivesNext (o : Outside) (before after : Standing)
    (said : Result (Option Token) TokenFault) : Type 0 where
  pub reads : Reads (o.held_after after.name) after
  pub answer : IfSome (o.held before.name) (λ bytes.
      IsAnswer bytes (tokens_before bytes before.place) said)
  pub one_more : IfSome (o.held before.name) (λ bytes.
      IfOk said (λ next. OnSome next
      (tokens_before bytes after.place ≡ tokens_before bytes before.place + 1)))
  pub ended : said ≡ Ok None → after.place ≡ before.place
  pub refused : OnErr said (after.place ≡ before.place)
  pub fault : said ≡ Err ReadFault → Rose (o.faults before.name) (o.faults_after before.name)
  pub memory : said ≡ Err NoMemory → ⊥
  pub name : after.name ≡ before.name
  pub kept : (other : List ℕ) → o.held_after other ≡ o.held other
  pub never_fall : (other : List ℕ) → o.faults other ≤ o.faults_after other

-- the values of the next tokens were added to a list, `count` of them, or all that were left; or a fault came first,
-- and the values of the tokens before it were added
pub record GivesValues (o : Outside) (before after : Standing) (count : ℕ) (old new : Listed ℕ)
    (said : Result ℕ TokenFault) : Type 0 where
  pub reads : Reads (o.held_after after.name) after
  pub adds : IfSome (o.held before.name) (λ bytes.
      AddsValues bytes before.place after.place (length new.items - length old.items)
      old.items new.items)
  pub number : IfOk said (λ n. length new.items ≡ length old.items + n)
  pub most : length new.items ≤ length old.items + count
  pub grows : length old.items ≤ length new.items
  pub room : new.room ≡ old.room
  pub ended : IfSome (o.held before.name) (λ bytes.
      IfOk said (λ n. n < count
      → IsAnswer bytes (tokens_before bytes after.place) (Ok None)))
  pub refused : IfSome (o.held before.name) (λ bytes. IfErr said (λ failed.
      IsAnswer bytes (tokens_before bytes after.place) (Err failed)))
  pub short : OnErr said (length new.items < length old.items + count)
  pub fault : said ≡ Err ReadFault → Rose (o.faults before.name) (o.faults_after before.name)
  pub memory : said ≡ Err NoMemory → ⊥
  pub name : after.name ≡ before.name
  pub kept : (other : List ℕ) → o.held_after other ≡ o.held other
  pub never_fall : (other : List ℕ) → o.faults other ≤ o.faults_after other

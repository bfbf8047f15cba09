-- What the next token makes of what is left.
use Rattle.std.proofs.Common.{◌≡◌, ℕ, suc, ◌+◌, refl, ap, ◌∙◌, ⊎_elim, true, List, [], ◌∷◌, drop, Option, Some, None}
use Rattle.std.proofs.Common.{Result, Ok, Err, IfSome, add-one, drop-cons, arith}
use Rattle.std.specs.Prelude.{option_map, slice_get}
use Rattle.std.proofs.lemmas.List.{drop_all}
use Rattle.std.proofs.lemmas.Option.{slice_get_within, get_or_from_slice_get}
use Rattle.ra_base.specs.Listed.{Listed}
use Rattle.ra_io.specs.Faults.{Rose}
use Rattle.ra_token.specs.declared.answers.Token.{Token}
use Rattle.ra_token.specs.declared.answers.TokenFault.{TokenFault}
use Rattle.ra_token.specs.declared.answers.TokenFault.TheVariants as told
use Rattle.ra_token.specs.Faults.{first_fault}
use Rattle.ra_token.specs.Finds.{Outside, GivesNext, GivesValues}
use Rattle.ra_token.specs.Moments.{Here, here, Goes}
use Rattle.ra_token.specs.Standing.{Standing}
use Rattle.ra_token.specs.TokenList.{tokens, tokens_before, IsAnswer}
use Rattle.ra_token.proofs.ToldLemmas.{told_then, told_both}
use Rattle.ra_model_read.specs.declared.faults.Field.{Field}
use Rattle.ra_model_read.specs.declared.faults.ModelFault.{ModelFault}
use Rattle.ra_model_read.specs.declared.faults.ModelFault.TheVariants.{Missing, Extra, ReadFault}
use Rattle.ra_model_read.specs.Formats.{Read, Refused, Format, next_token, take_token, fault_or, token_fault, take_end}
use Rattle.ra_model_read.specs.Formats.{ends}
use Rattle.ra_model_read.specs.Reading.{left_from, left_of, Gives, FormatRefuses, is_by_content}

-- a token is the first of those left, and the others come after it
drop_from : {X : Type 0} → (xs : List X) (n : ℕ) (x : X) → slice_get xs n ≡ Some x → drop n xs ≡ x ∷ drop (suc n) xs
drop_from xs n x e =
    drop-cons xs n x (slice_get_within xs n x e) ∙ ap (λ y. y ∷ drop (suc n) xs) (get_or_from_slice_get xs n x x e)

token_read : (what : Field) (item place after : ℕ) (t : Token) (bytes : List ℕ) →
    slice_get (tokens bytes) (tokens_before bytes place) ≡ Some t →
    tokens_before bytes after ≡ suc (tokens_before bytes place) → next_token what item (left_from place bytes) ≡
    Read t (left_from after bytes)
unfolding next_token take_token left_from
token_read what item place after t bytes next more =
    rw (drop_from (tokens bytes) (tokens_before bytes place) t next, more) refl

-- no token is left, and this is the fault of the bytes
record Ended (bytes : List ℕ) (place : ℕ) (fault : Option TokenFault) : Type 0 where
  pub none : drop (tokens_before bytes place) (tokens bytes) ≡ []
  pub shows : first_fault bytes ≡ fault

ended : (bytes : List ℕ) (place : ℕ) → IsAnswer bytes (tokens_before bytes place) (Ok None) → Ended bytes place None
ended bytes place answer = record {
  none = drop_all (tokens_before bytes place) (tokens bytes) (omega (arith, answer.0));
  shows = answer.1;
}

content_not_read : (fault : TokenFault) → is_by_content (token_fault fault) ≡ true → fault ≡ told.ReadFault → ⊥
unfolding token_fault is_by_content
content_not_read told.ReadFault by_content e = cc
content_not_read (told.BadByte at byte) by_content e = cc
content_not_read (told.TooLarge at) by_content e = cc
content_not_read told.TooLong by_content e = cc
content_not_read told.NoMemory by_content e = cc

-- the fault of a token that is not a failed fetch
by_content_read : (fault : TokenFault) → token_fault fault ≡ ReadFault → fault ≡ told.ReadFault
unfolding token_fault
by_content_read told.ReadFault e = refl
by_content_read (told.BadByte at byte) e = cc
by_content_read (told.TooLarge at) e = cc
by_content_read told.TooLong e = cc
by_content_read told.NoMemory e = cc

ended_by : (bytes : List ℕ) (place : ℕ) (fault : TokenFault) → is_by_content (token_fault fault) ≡ true →
    IsAnswer bytes (tokens_before bytes place) (Err fault) → Ended bytes place (Some fault)
ended_by bytes place fault by_content answer = ⊎_elim
    (λ (failed : fault ≡ told.ReadFault). absurd (content_not_read fault by_content failed))
    (λ shows. record {
      none = drop_all (tokens_before bytes place) (tokens bytes) (omega (arith, shows.0));
      shows = shows.1;
    }) answer

module _ (what : Field) (item place : ℕ) (bytes : List ℕ) where
  pub token_missing : IsAnswer bytes (tokens_before bytes place) (Ok None) →
      next_token what item (left_from place bytes) ≡ Refused (Missing what item)
  unfolding next_token take_token left_from fault_or
  token_missing answer = let end = ended bytes place answer in rw (end.none, end.shows) refl

  pub token_fails : (fault : TokenFault) → is_by_content (token_fault fault) ≡ true →
      IsAnswer bytes (tokens_before bytes place) (Err fault) →
      next_token what item (left_from place bytes) ≡ Refused (token_fault fault)
  unfolding next_token take_token left_from fault_or
  token_fails fault by_content answer =
      let end = ended_by bytes place fault by_content answer in rw (end.none, end.shows) refl

end_read : (place after : ℕ) (bytes : List ℕ) → after ≡ place → IsAnswer bytes (tokens_before bytes place) (Ok None) →
    ends (left_from place bytes) ≡ Read tt (left_from after bytes)
unfolding ends take_end left_from
end_read place after bytes stays answer =
    let end = ended bytes place answer in rw (stays, end.none, end.shows) refl

end_fails : (place : ℕ) (bytes : List ℕ) (fault : TokenFault) → is_by_content (token_fault fault) ≡ true →
    IsAnswer bytes (tokens_before bytes place) (Err fault) → ends (left_from place bytes) ≡ Refused (token_fault fault)
unfolding ends take_end left_from
end_fails place bytes fault by_content answer =
    let end = ended_by bytes place fault by_content answer in rw (end.none, end.shows) refl

extra_first : (fault : Option TokenFault) (first : Token) (rest : List Token) →
    take_end fault (first ∷ rest) ≡ Refused (Extra first.at)
unfolding take_end
extra_first None first rest = refl
extra_first (Some fault) first rest = refl

end_extra : (place : ℕ) (bytes : List ℕ) (t : Token) → slice_get (tokens bytes) (tokens_before bytes place) ≡ Some t →
    ends (left_from place bytes) ≡ Refused (Extra t.at)
unfolding ends left_from
end_extra place bytes t next = rw (drop_from (tokens bytes) (tokens_before bytes place) t next)
    (extra_first (first_fault bytes) t (drop (suc (tokens_before bytes place)) (tokens bytes)))

-- if the bytes are told

told_read : {X : Type 0} → (f : Format X) (x : X) (before now : Option (List ℕ)) (place after : ℕ) → now ≡ before →
    IfSome before (λ bytes. f (left_from place bytes) ≡ Read x (left_from after bytes)) →
    option_map f (option_map (left_from place) before) ≡ option_map (Read x) (option_map (left_from after) now)
told_read f x None None place after same here = refl
told_read f x None (Some bytes) place after same here = cc
told_read f x (Some bytes) None place after same here = cc
told_read f x (Some bytes) (Some other) place after same here = let e : other ≡ bytes = cc in rw e (ap Some here)

told_refused : {X : Type 0} → (f : Format X) (fault : ModelFault) (before : Option (List ℕ)) (place : ℕ) →
    IfSome before (λ bytes. f (left_from place bytes) ≡ Refused fault) →
    option_map f (option_map (left_from place) before) ≡ option_map (λ _. Refused fault)
    (option_map (left_from place) before)
told_refused f fault None place here = refl
told_refused f fault (Some bytes) place here = ap Some here

pub gives_told : {X : Type 0} {f : Format X} {a b : Here} {x : X} → Goes a b → IfSome (a.held a.tokens.name)
    (λ bytes. f (left_from a.tokens.place bytes) ≡ Read x (left_from b.tokens.place bytes)) → Gives f a b x
unfolding left_of
gives_told {X} {f} {a} {b} {x} goes here = record {
  goes = goes;
  value = told_read f x (a.held a.tokens.name) (b.held b.tokens.name) a.tokens.place b.tokens.place
      (ap b.held goes.name ∙ goes.kept a.tokens.name) here;
}

-- a refusal that no failed fetch explains
pub refuses_told : {X : Type 0} {f : Format X} {a b : Here} {fault : ModelFault} → Goes a b → (fault ≡ ReadFault → ⊥) →
    IfSome (a.held a.tokens.name) (λ bytes. f (left_from a.tokens.place bytes) ≡ Refused fault) →
    FormatRefuses f a b fault
unfolding left_of
refuses_told {X} {f} {a} {b} {fault} goes no_read here = record {
  goes = goes;
  rose = λ e. absurd (no_read e);
  told = λ by_content. told_refused f fault (a.held a.tokens.name) a.tokens.place here;
}

-- a fault of the tokens
pub refuses_by : {X : Type 0} {f : Format X} {a b : Here} {fault : TokenFault} {told_as : ModelFault} →
    told_as ≡ token_fault fault → Goes a b →
    (fault ≡ told.ReadFault → Rose (a.faults a.tokens.name) (b.faults a.tokens.name)) →
    (is_by_content (token_fault fault) ≡ true → IfSome (a.held a.tokens.name)
    (λ bytes. f (left_from a.tokens.place bytes) ≡ Refused (token_fault fault))) → FormatRefuses f a b told_as
unfolding left_of
refuses_by {X} {f} {a} {b} {fault} as_model goes rose here = rw as_model record {
  goes = goes;
  rose = λ e. rose (by_content_read fault e);
  told = λ by_content. told_refused f (token_fault fault) (a.held a.tokens.name) a.tokens.place (here by_content);
}

-- what every call of the reader leaves

pub goes_next : {o : Outside} {before after : Standing} {said : Result (Option Token) TokenFault} →
    GivesNext o before after said → Goes (here o.held o.faults before) (here o.held_after o.faults_after after)
goes_next given = record { name = given.name; stands = given.reads; kept = given.kept; never_fall = given.never_fall }

pub goes_values : {o : Outside} {before after : Standing} {count : ℕ} {old new : Listed ℕ} {said : Result ℕ TokenFault}
    → GivesValues o before after count old new said →
    Goes (here o.held o.faults before) (here o.held_after o.faults_after after)
goes_values given = record { name = given.name; stands = given.reads; kept = given.kept; never_fall = given.never_fall }

module _ (what : Field) (item : ℕ) (a b : Here) where
  -- the next token

  pub gives_token : (t : Token) → Goes a b →
      IfSome (a.held a.tokens.name) (λ bytes. IsAnswer bytes (tokens_before bytes a.tokens.place) (Ok (Some t))) →
      IfSome (a.held a.tokens.name) (λ bytes. tokens_before bytes b.tokens.place ≡
      tokens_before bytes a.tokens.place + 1) → Gives (next_token what item) a b t
  gives_token t goes answer more = gives_told goes (told_both _ answer more
      (λ bytes next one_more. token_read what item a.tokens.place b.tokens.place t bytes next (one_more ∙ add-one _)))

  pub refuses_missing : Goes a b →
      IfSome (a.held a.tokens.name) (λ bytes. IsAnswer bytes (tokens_before bytes a.tokens.place) (Ok None)) →
      FormatRefuses (next_token what item) a b (Missing what item)
  refuses_missing goes answer =
      refuses_told goes (λ e. cc) (told_then _ answer (token_missing what item a.tokens.place))

  pub refuses_token : (fault : TokenFault) (told_as : ModelFault) → told_as ≡ token_fault fault → Goes a b →
      IfSome (a.held a.tokens.name) (λ bytes. IsAnswer bytes (tokens_before bytes a.tokens.place) (Err fault)) →
      (fault ≡ told.ReadFault → Rose (a.faults a.tokens.name) (b.faults a.tokens.name)) →
      FormatRefuses (next_token what item) a b told_as
  refuses_token fault told_as as_model goes answer rose = refuses_by as_model goes rose (λ by_content.
      told_then _ answer (λ bytes why. token_fails what item a.tokens.place bytes fault by_content why))

module _ (a b : Here) where
  -- the end

  pub gives_end : Goes a b → b.tokens.place ≡ a.tokens.place →
      IfSome (a.held a.tokens.name) (λ bytes. IsAnswer bytes (tokens_before bytes a.tokens.place) (Ok None)) →
      Gives ends a b tt
  gives_end goes stays answer =
      gives_told goes (told_then _ answer (λ bytes. end_read a.tokens.place b.tokens.place bytes stays))

  pub refuses_extra : (t : Token) → Goes a b →
      IfSome (a.held a.tokens.name) (λ bytes. IsAnswer bytes (tokens_before bytes a.tokens.place) (Ok (Some t))) →
      FormatRefuses ends a b (Extra t.at)
  refuses_extra t goes answer =
      refuses_told goes (λ e. cc) (told_then _ answer (λ bytes next. end_extra a.tokens.place bytes t next))

  pub refuses_end : (fault : TokenFault) (told_as : ModelFault) → told_as ≡ token_fault fault → Goes a b →
      IfSome (a.held a.tokens.name) (λ bytes. IsAnswer bytes (tokens_before bytes a.tokens.place) (Err fault)) →
      (fault ≡ told.ReadFault → Rose (a.faults a.tokens.name) (b.faults a.tokens.name)) → FormatRefuses ends a b told_as
  refuses_end fault told_as as_model goes answer rose = refuses_by as_model goes rose (λ by_content.
      told_then _ answer (λ bytes why. end_fails a.tokens.place bytes fault by_content why))

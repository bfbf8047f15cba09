-- What a list of the next numbers makes of what is left.
use Rattle.std.proofs.Common.{inl, inr, ◌≡◌, ℕ, zero, suc, ◌+◌, ◌<◌, ◌≤◌, refl, ap, ◌∙◌, sym, List, [], ◌∷◌, ◌++◌, length}
use Rattle.std.proofs.Common.{map, take, drop, get_or, Option, None, Ok, Err, IfSome, arith, append_assoc}
use Rattle.std.proofs.Common.{append-nil, length-append, length-take, drop-cons}
use Rattle.std.proofs.lemmas.Bool.{cases_lt}
use Rattle.std.proofs.lemmas.List.{map-append, length-map}
use Rattle.std.proofs.Math.Seq.{take-suc, drop-drop}
use Rattle.ra_io.specs.Faults.{Rose}
use Rattle.ra_token.specs.declared.answers.Token.{Token}
use Rattle.ra_token.specs.declared.answers.TokenFault.{TokenFault}
use Rattle.ra_token.specs.declared.answers.TokenFault.TheVariants as told
use Rattle.ra_token.specs.Faults.{first_fault}
use Rattle.ra_token.specs.TokenList.{tokens, tokens_before, IsAnswer}
use Rattle.ra_token.specs.Values.{value_of, values_from, AddsValues}
use Rattle.ra_model_read.specs.declared.faults.Field.{Field}
use Rattle.ra_model_read.specs.declared.faults.ModelFault.{ModelFault}
use Rattle.ra_model_read.specs.declared.faults.ModelFault.TheVariants.{Missing}
use Rattle.ra_model_read.specs.Formats.{Left, Read, Refused, pure, go_on, ◌>>=◌, next_token, take_token, token_fault}
use Rattle.ra_model_read.specs.Formats.{any, along, number_more, numbers}
use Rattle.ra_token.specs.Moments.{Here, Goes}
use Rattle.ra_model_read.specs.Reading.{left_from, Gives, FormatRefuses}
use Rattle.ra_token.proofs.ToldLemmas.{told_then, told_both}
use Rattle.ra_model_read.proofs.Outcomes.{bind_read, bind_refused}
use Rattle.ra_model_read.proofs.NextToken.{token_missing, token_fails, gives_told, refuses_told, refuses_by}

-- these tokens and this fault are left
abbrev pub with_tokens : List Token → Option TokenFault → Left
with_tokens ts fault = record { tokens = ts; fault = fault }

-- the values of the first tokens, one more
values_more : (ts : List Token) (n : ℕ) (t : Token) (xs : List ℕ) → n < length ts →
    xs ++ map value_of (take n ts) ++ (get_or ts n t).value ∷ [] ≡ xs ++ map value_of (take (suc n) ts)
values_more ts n t xs within =
    append_assoc xs (map value_of (take n ts)) ((get_or ts n t).value ∷ [])
    ∙ ap (λ more. xs ++ more) (sym (map-append value_of (take n ts) (get_or ts n t ∷ []))
    ∙ ap (map value_of) (sym (take-suc ts n t within)))

-- the values that a reader added
all_there : (bytes : List ℕ) (k n : ℕ) (xs : List ℕ) → length (xs ++ values_from bytes k n) ≡ length xs + n →
    n ≤ length (drop k (tokens bytes))
unfolding values_from
all_there bytes k n xs added =
    omega (
      arith,
      added,
      length-append xs (map value_of (take n (drop k (tokens bytes)))),
      length-map (take n (drop k (tokens bytes))) value_of,
      length-take n (drop k (tokens bytes)),
    )

module _ (what : Field) (first : ℕ) where
  module _ (k : ℕ) (xs : List ℕ) where
    -- one number
    more_taken : (t : Token) (rest : List Token) (fault : Option TokenFault) →
        number_more what first k xs (with_tokens (t ∷ rest) fault) ≡ Read (xs ++ t.value ∷ []) (with_tokens rest fault)
    unfolding number_more any next_token take_token ◌>>=◌ go_on pure
    more_taken t rest fault = refl

    more_refused : (l : Left) (fault : ModelFault) → next_token what (first + k) l ≡ Refused fault →
        number_more what first k xs l ≡ Refused fault
    unfolding number_more any
    more_refused l fault none =
        bind_refused (any what (first + k)) _ l fault (bind_refused (next_token what (first + k)) _ l fault none)

  -- as many numbers as there are tokens, or fewer
  numbers_taken : (n : ℕ) (xs : List ℕ) (ts : List Token) (fault : Option TokenFault) → n ≤ length ts →
      numbers what first n xs (with_tokens ts fault) ≡
      Read (xs ++ map value_of (take n ts)) (with_tokens (drop n ts) fault)
  unfolding numbers along pure
  numbers_taken zero xs ts fault within = ap (λ ys. Read ys (with_tokens ts fault)) (sym (append-nil xs))
  numbers_taken (suc n) xs [] fault within = absurd (omega arith)
  numbers_taken (suc n) xs (t ∷ ts) fault within =
      let all = t ∷ ts in
      let here : n < length all = omega arith in
      bind_read (numbers what first n xs) (number_more what first n) (with_tokens all fault)
      (with_tokens (drop n all) fault) (xs ++ map value_of (take n all))
      (numbers_taken n xs all fault (omega arith))
      ∙ ap (λ rest. number_more what first n (xs ++ map value_of (take n all)) (with_tokens rest fault))
      (drop-cons all n t here)
      ∙ more_taken n (xs ++ map value_of (take n all)) (get_or all n t) (drop (suc n) all) fault
      ∙ ap (λ ys. Read ys (with_tokens (drop (suc n) all) fault)) (values_more all n t xs here)

-- a number that is not there, before all were read
numbers_stop : (what : Field) (first n count : ℕ) (xs ys : List ℕ) (l m : Left) (fault : ModelFault) → n < count →
    numbers what first n xs l ≡ Read ys m → next_token what (first + n) m ≡ Refused fault →
    numbers what first count xs l ≡ Refused fault
unfolding numbers along
numbers_stop what first n zero xs ys l m fault few so_far none = absurd (omega arith)
numbers_stop what first n (suc count) xs ys l m fault few so_far none = elim (cases_lt n count) [
  | inl before ↦ bind_refused (numbers what first count xs) (number_more what first count) l fault
      (numbers_stop what first n count xs ys l m fault before so_far none)
  | inr last ↦ let same : n ≡ count = omega arith in
      bind_read (numbers what first count xs) (number_more what first count) l m ys
      (ap (λ k. numbers what first k xs l) (sym same) ∙ so_far)
      ∙ more_refused what first count ys m fault (ap (λ k. next_token what (first + k) m) (sym same) ∙ none)
]

module _ (what : Field) (first : ℕ) where
  numbers_read : (from place n : ℕ) (xs ys bytes : List ℕ) → length ys ≡ length xs + n →
      AddsValues bytes from place n xs ys →
      numbers what first n xs (left_from from bytes) ≡ Read ys (left_from place bytes)
  unfolding left_from values_from
  numbers_read from place n xs ys bytes added adds =
      let k = tokens_before bytes from in
      numbers_taken what first n xs (drop k (tokens bytes)) (first_fault bytes)
      (all_there bytes k n xs (ap length (sym adds.values) ∙ added))
      ∙ ap (λ zs. Read zs (with_tokens (drop n (drop k (tokens bytes))) (first_fault bytes))) (sym adds.values)
      ∙ ap (λ rest. Read ys (with_tokens rest (first_fault bytes)))
      (drop-drop n k (tokens bytes) ∙ ap (λ j. drop j (tokens bytes)) (sym adds.given))

  -- all of them were added
  pub gives_numbers : (n : ℕ) (xs ys : List ℕ) (a b : Here) → Goes a b → length ys ≡ length xs + n →
      IfSome (a.held a.tokens.name) (λ bytes. AddsValues bytes a.tokens.place b.tokens.place n xs ys) →
      Gives (numbers what first n xs) a b ys
  gives_numbers n xs ys a b goes added adds = gives_told goes (told_then _ adds
      (λ bytes these. numbers_read a.tokens.place b.tokens.place n xs ys bytes added these))

  module _ (n count : ℕ) (xs : List ℕ) where
    module _ (ys : List ℕ) (a b : Here) where
      -- the tokens ended before
      pub refuses_few : Goes a b → n < count → length ys ≡ length xs + n →
          IfSome (a.held a.tokens.name) (λ bytes. AddsValues bytes a.tokens.place b.tokens.place n xs ys) →
          IfSome (a.held a.tokens.name) (λ bytes. IsAnswer bytes (tokens_before bytes b.tokens.place) (Ok None)) →
          FormatRefuses (numbers what first count xs) a b (Missing what (first + n))
      refuses_few goes few added adds answer = refuses_told goes (λ e. cc)
          (told_both _ adds answer (λ bytes these ended. numbers_stop what first n count xs ys _ _ _ few
          (numbers_read a.tokens.place b.tokens.place n xs ys bytes added these)
          (token_missing what (first + n) b.tokens.place bytes ended)))

      -- a fault came before
      pub refuses_fault : (fault : TokenFault) (told_as : ModelFault) → told_as ≡ token_fault fault → Goes a b →
          n < count → length ys ≡ length xs + n →
          IfSome (a.held a.tokens.name) (λ bytes. AddsValues bytes a.tokens.place b.tokens.place n xs ys) →
          IfSome (a.held a.tokens.name) (λ bytes. IsAnswer bytes (tokens_before bytes b.tokens.place) (Err fault)) →
          (fault ≡ told.ReadFault → Rose (a.faults a.tokens.name) (b.faults a.tokens.name)) →
          FormatRefuses (numbers what first count xs) a b told_as
      refuses_fault fault told_as as_model goes few added adds answer rose =
          refuses_by as_model goes rose (λ by_content.
          told_both _ adds answer (λ bytes these why. numbers_stop what first n count xs ys _ _ _ few
          (numbers_read a.tokens.place b.tokens.place n xs ys bytes added these)
          (token_fails what (first + n) b.tokens.place bytes fault by_content why)))

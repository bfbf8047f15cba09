-- The values of tokens, one token on.
use Rattle.std.proofs.Common.{◌≡◌, ℕ, suc, ◌+◌, List, [], ◌∷◌, ◌++◌, map, take, drop, slice_get, Option, Some, None, Ok, IfSome, sym, refl, ap, ap₂, ◌∙◌, arith, drop-cons, append_assoc, append-nil}
use Rattle.std.proofs.lemmas.List.{map-append}
use Rattle.std.proofs.Math.Seq.{take-add, drop-drop}
use Rattle.std.proofs.lemmas.Option.{slice_get_within, get_or_from_slice_get}
use Rattle.ra_token.specs.declared.answers.Token.{Token}
use Rattle.ra_token.specs.TokenList.{tokens, tokens_before, IsAnswer}
use Rattle.ra_token.specs.Reads.{IsBetween, Reads}
use Rattle.ra_token.specs.Standing.{Standing}
use Rattle.ra_token.specs.Scan.{token_of, IsNext}
use Rattle.ra_token.specs.Values.{value_of, values_from, AddsValues}

module _ (bytes : List ℕ) where
  values_none : (k : ℕ) → values_from bytes k 0 ≡ []
  unfolding values_from
  values_none k = refl

  -- one token
  values_one : (k : ℕ) (t : Token) → slice_get (tokens bytes) k ≡ Some t → values_from bytes k 1 ≡ t.value ∷ []
  unfolding values_from
  values_one k t next =
      rw (drop-cons (tokens bytes) k t (slice_get_within (tokens bytes) k t next)
      ∙ ap (λ y. y ∷ drop (suc k) (tokens bytes)) (get_or_from_slice_get (tokens bytes) k t t next)) refl

  -- some and then some more
  values_then : (k m n : ℕ) → values_from bytes k (m + n) ≡ values_from bytes k m ++ values_from bytes
      (k + m) n
  unfolding values_from
  values_then k m n =
      ap (map value_of)
      (take-add m n (drop k (tokens bytes)) ∙ ap (λ rest. take m (drop k (tokens bytes)) ++ take n rest)
      (drop-drop m k (tokens bytes)))
      ∙ map-append value_of (take m (drop k (tokens bytes))) (take n (drop (k + m) (tokens bytes)))

  -- nothing yet
  pub adds_none : (place n : ℕ) (xs : List ℕ) → n ≡ 0 → IsBetween bytes place → AddsValues bytes place place n xs xs
  adds_none place n xs none between = record {
    between = between;
    given = omega arith;
    values = sym (append-nil xs)
        ∙ ap (λ more. xs ++ more) (sym (values_none (tokens_before bytes place))
        ∙ ap (values_from bytes (tokens_before bytes place)) (sym none));
  }

  -- some and then some more
  pub adds_then : (from at place m n k : ℕ) (xs ys zs : List ℕ) → k ≡ m + n → AddsValues bytes from at m xs ys →
      AddsValues bytes at place n ys zs → AddsValues bytes from place k xs zs
  adds_then from at place m n k xs ys zs together one two = record {
    between = two.between;
    given = omega (arith, one.given, two.given);
    values = two.values
        ∙ ap₂ (λ front number. front ++ values_from bytes number n) one.values one.given
        ∙ append_assoc xs (values_from bytes (tokens_before bytes from) m)
        (values_from bytes (tokens_before bytes from + m) n)
        ∙ ap (λ more. xs ++ more) (sym (values_then (tokens_before bytes from) m n))
        ∙ ap (λ number. xs ++ values_from bytes (tokens_before bytes from) number) (sym together);
  }

  -- one token
  pub adds_one : (from place : ℕ) (t : Token) (xs ys : List ℕ) →
      slice_get (tokens bytes) (tokens_before bytes from) ≡ Some t →
      tokens_before bytes place ≡ tokens_before bytes from + 1 → IsBetween bytes place → ys ≡ xs ++ t.value ∷ [] →
      AddsValues bytes from place 1 xs ys
  adds_one from place t xs ys next given between pushed = record {
    between = between;
    given = given;
    values = pushed ∙ ap (λ more. xs ++ more) (sym (values_one (tokens_before bytes from) t next));
  }

  -- one token more
  pub adds_more : (from at start place value n : ℕ) (xs ys zs : List ℕ) → AddsValues bytes from at n xs ys →
      IsNext bytes at start place value → zs ≡ ys ++ value ∷ [] → AddsValues bytes from place (n + 1) xs zs
  adds_more from at start place value n xs ys zs adds next pushed =
      adds_then from at place n 1 (n + 1) xs ys zs refl adds
      (adds_one at place (token_of value start) ys zs next.token next.given next.between pushed)

-- if the bytes of the file are told

pub told_none : (told : Option (List ℕ)) (reader : Standing) (xs : List ℕ) → Reads told reader →
    IfSome told (λ bytes. AddsValues bytes reader.place reader.place 0 xs xs)
told_none None reader xs reads = tt
told_none (Some bytes) reader xs reads = adds_none bytes reader.place 0 xs refl reads.between

-- a token, and then those that are ready
pub told_more : (told told_now told_next : Option (List ℕ)) (from before between after : Standing) (t : Token)
    (taken n all : ℕ) (xs ys us zs : List ℕ) → told_now ≡ told → told_next ≡ told_now → all ≡ taken + 1 + n →
    us ≡ ys ++ t.value ∷ []
    → Reads told_next between
    → IfSome told (λ bytes. AddsValues bytes from.place before.place taken xs ys)
    → IfSome told_now (λ bytes. IsAnswer bytes (tokens_before bytes before.place) (Ok (Some t)))
    → IfSome told_now (λ bytes. tokens_before bytes between.place ≡ tokens_before bytes before.place + 1)
    → IfSome told_next (λ bytes. AddsValues bytes between.place after.place n us zs)
    → IfSome told (λ bytes. AddsValues bytes from.place after.place all xs zs)
told_more None told_now told_next from before between after t taken n all xs ys us zs same same_next number pushed reads
    adds answer more ready = tt
told_more (Some bytes) told_now told_next from before between after t taken n all xs ys us zs same same_next number
    pushed reads adds answer more ready =
    let next : told_next ≡ Some bytes = same_next ∙ same in
    adds_then bytes from.place between.place after.place (taken + 1) n all xs us zs number
    (adds_then bytes from.place before.place between.place taken 1 (taken + 1) xs ys us refl adds
    (adds_one bytes before.place between.place t ys us (rw same at answer) (rw same at more)
    (rw next at reads).between pushed))
    (rw next at ready)

-- What a format gives at the start of a file is what the bytes mean.
use Rattle.std.proofs.Common.{◌≡◌, ℕ, refl, ap, sym, subst, true, List, Option, Some, None, Ok, IfSome}
use Rattle.std.specs.Prelude.{option_map}
use Rattle.ra_model.specs.declared.raw.RawInstance.{RawInstance}
use Rattle.ra_model.specs.declared.raw.Tables.{Tables}
use Rattle.ra_model.specs.Limits.{WellFormed}
use Rattle.ra_model.specs.Numbers.{all_open}
use Rattle.ra_token.specs.TokenList.{tokens_before}
use Rattle.ra_model_read.specs.declared.faults.ModelFault.TheVariants.{NoMemory}
use Rattle.ra_model_read.specs.declared.faults.ModelFault.{ModelFault}
use Rattle.ra_model_read.specs.Formats.{Left, Read, Refused}
use Rattle.ra_model_read.specs.Lists.{Lists, lists_of}
use Rattle.ra_model_read.specs.ModelText.{model, all_of, answer_of, model_of, model_refusal, IsModel}
use Rattle.ra_model_read.specs.FieldOrder.{IsTextOf}
use Rattle.ra_model_read.specs.Texts.{ModelIsItsNumbers}
use Rattle.ra_model_read.proofs.ModelLimits.{model_well_formed}
use Rattle.ra_model_read.proofs.TextAccepted.{text_accepted}
use Rattle.ra_model_read.proofs.TextTaken.{text_taken}
use Rattle.ra_token.specs.Moments.{Here}
use Rattle.ra_model_read.specs.Reading.{left_from, left_of, Gives, FormatRefuses, is_by_content}

all_left : (place : ℕ) (bytes : List ℕ) → tokens_before bytes place ≡ 0 → left_from place bytes ≡ all_of bytes
unfolding left_from all_of
all_left place bytes start = rw start refl

module _ (bytes : List ℕ) (place : ℕ) where
  meant_by : (lists : Lists) (after : Left) → tokens_before bytes place ≡ 0 →
      model (left_from place bytes) ≡ Read lists after → model_of bytes ≡ Ok lists
  unfolding model_of answer_of
  meant_by lists after start e = rw (← all_left place bytes start, e) refl

  refused_by : (fault : ModelFault) → tokens_before bytes place ≡ 0 → model (left_from place bytes) ≡ Refused fault →
      model_refusal bytes ≡ Some fault
  unfolding model_refusal model_of answer_of
  refused_by fault start e = rw (← all_left place bytes start, e) refl

told_lists : (told : Option (List ℕ)) (place : ℕ) (lists : Lists) (after : Option Left) →
    ((bytes : List ℕ) → tokens_before bytes place ≡ 0) → option_map model (option_map (left_from place) told) ≡
    option_map (Read lists) after → IfSome told (λ bytes. model_of bytes ≡ Ok lists)
told_lists None place lists after start e = tt
told_lists (Some bytes) place lists None start e = cc
told_lists (Some bytes) place lists (Some after) start e = let read : model (left_from place bytes) ≡
    Read lists after = cc in meant_by bytes place lists after (start bytes) read

told_refusal : (told : Option (List ℕ)) (place : ℕ) (fault : ModelFault) →
    ((bytes : List ℕ) → tokens_before bytes place ≡ 0) → option_map model (option_map (left_from place) told) ≡
    option_map (λ _. Refused fault) (option_map (left_from place) told) →
    IfSome told (λ bytes. model_refusal bytes ≡ Some fault)
told_refusal None place fault start e = tt
told_refusal (Some bytes) place fault start e = let refused : model (left_from place bytes) ≡ Refused fault = cc in
    refused_by bytes place fault (start bytes) refused

module _ (a b : Here) (name : List ℕ) where
  pub means : (lists : Lists) → a.tokens.name ≡ name → ((bytes : List ℕ) → tokens_before bytes a.tokens.place ≡ 0) →
      Gives model a b lists → IfSome (a.held name) (λ bytes. model_of bytes ≡ Ok lists)
  unfolding left_of
  means lists e start gives =
      rw (← e) (told_lists (a.held a.tokens.name) a.tokens.place lists (left_of b) start gives.value)

  pub refuses_as : (fault : ModelFault) → a.tokens.name ≡ name →
      ((bytes : List ℕ) → tokens_before bytes a.tokens.place ≡ 0) → FormatRefuses model a b fault →
      is_by_content fault ≡ true → IfSome (a.held name) (λ bytes. model_refusal bytes ≡ Some fault)
  unfolding left_of
  refuses_as fault e start refuses by_content =
      rw (← e) (told_refusal (a.held a.tokens.name) a.tokens.place fault start (refuses.told by_content))

pub is_model : (told : Option (List ℕ)) (raw : RawInstance) (i : Tables) → i ≡ all_open raw →
    IfSome told (λ bytes. model_of bytes ≡ Ok (lists_of raw)) → IfSome told (λ bytes. IsModel bytes i)
is_model None raw i e meant = tt
is_model (Some bytes) raw i e meant = subst (IsModel bytes) (sym e) (record { lists = meant; open_to_all = refl })

-- a refusal for memory is not because of the bytes
pub no_content : is_by_content NoMemory ≡ true → ⊥
unfolding is_by_content
no_content e = cc

-- the text of an instance, and the instance of a text

pub has_text : (told : Option (List ℕ)) (raw : RawInstance) (i : Tables) → WellFormed (all_open raw) →
    i ≡ all_open raw → IfSome told (λ bytes. model_of bytes ≡ Ok (lists_of raw)) →
    IfSome told (λ bytes. IsTextOf bytes i)
has_text None raw i h e meant = tt
has_text (Some bytes) raw i h e meant = subst (IsTextOf bytes) (sym e) (text_taken raw bytes h meant)

numbers_of_model : (bytes : List ℕ) (raw : RawInstance) → model_of bytes ≡ Ok (lists_of raw) → WellFormed (all_open raw)
    × IsTextOf bytes (all_open raw)
numbers_of_model bytes raw meant = let h = model_well_formed raw bytes meant in (h, text_taken raw bytes h meant)

pub model_is_its_numbers : (bytes : List ℕ) → ModelIsItsNumbers bytes
model_is_its_numbers bytes i = (there, back)
  where
    open_is : i.closed ≡ None → i ≡ all_open i.raw
    open_is e = ap (λ closed. record { raw = i.raw; closed = closed }) e

    there : IsModel bytes i → WellFormed i × (i.closed ≡ None) × IsTextOf bytes i
    there meant = let both = numbers_of_model bytes i.raw meant.lists in (
      subst WellFormed (sym (open_is meant.open_to_all)) both.0,
      meant.open_to_all,
      subst (IsTextOf bytes) (sym (open_is meant.open_to_all)) both.1,
    )

    back : WellFormed i × (i.closed ≡ None) × IsTextOf bytes i → IsModel bytes i
    back all = record {
      lists = text_accepted i.raw bytes (subst WellFormed (open_is all.1) all.0)
          (subst (IsTextOf bytes) (open_is all.1) all.2);
      open_to_all = all.1;
    }

pub told_model_is_its_numbers : (told : Option (List ℕ)) → IfSome told ModelIsItsNumbers
told_model_is_its_numbers None = tt
told_model_is_its_numbers (Some bytes) = model_is_its_numbers bytes

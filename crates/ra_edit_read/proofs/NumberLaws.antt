-- From the answers of a token reader to what is wrong with the numbers of an edit.
use Rattle.std.proofs.Common.{◌≡◌, ℕ, ◌+◌, ◌-◌, ◌<◌, ◌≤◌, ◌⊎◌, List, length, Option, Some, None, Ok, Err, refl, sym, ap}
use Rattle.std.proofs.Common.{◌∙◌, inl, inr, ⊎_elim, arith, length-take, length-drop, length-append}
use Rattle.std.specs.Prelude.{slice_get, nat_lt}
use Rattle.std.proofs.lemmas.Bool.{cond-true, cond-false, lt-ltb, le-ltb}
use Rattle.std.proofs.lemmas.List.{length-map}
use Rattle.std.proofs.lemmas.Option.{slice_get-get_or, get_or_from_slice_get}
use Rattle.ra_base.proofs.Searches.{first_none_from, first_found}
use Rattle.ra_token.specs.declared.answers.Token.{Token}
use Rattle.ra_token.specs.declared.answers.TokenFault.{TokenFault}
use Rattle.ra_token.specs.declared.answers.TokenFault.TheVariants as told
use Rattle.ra_token.specs.TokenList.{tokens, tokens_before, IsAnswer, GaveAll}
use Rattle.ra_token.specs.Faults.{first_fault}
use Rattle.ra_token.specs.Values.{values_from, AddsValues}
use Rattle.ra_token.specs.Moments.{HasNext, HasFault}
use Rattle.ra_token.proofs.TokenLaws.{past_all}
use Rattle.ra_edit_read.specs.declared.faults.EditsFault.{EditsFault}
use Rattle.ra_edit_read.specs.declared.faults.EditsFault.TheVariants.{ReadFault, BadByte, TooLarge, TooLong, Missing}
use Rattle.ra_edit_read.specs.declared.faults.EditsFault.TheVariants.{Range, TooMany, NoMemory}
use Rattle.ra_edit_read.specs.EditTexts.{token_value_at, edits_fault, none_left_in_edit, any_test, below_test, any_at}
use Rattle.ra_edit_read.specs.EditTexts.{below_at, any_from}
use Rattle.ra_edit_read.specs.Answers.{EditsSays}
use Rattle.ra_edit_read.specs.Reading.{TakesNumber, TakesValues}

-- a refusal that says what one finding is says what another one is, if that is the same
pub says_same : (found other : Option EditsFault) (fault : EditsFault) → (found ≡ Some fault → other ≡ Some fault) →
    EditsSays found fault → EditsSays other fault
says_same found other ReadFault same says = tt
says_same found other (BadByte at byte) same says = same says
says_same found other (TooLarge at) same says = same says
says_same found other TooLong same says = same says
says_same found other (Missing edit) same says = same says
says_same found other (Range at value least most) same says = same says
says_same found other (TooMany at) same says = same says
says_same found other NoMemory same says = tt

-- a fault of a token that was found is what its refusal says
pub says_fault : (found : Option EditsFault) (fault : TokenFault) → (fault ≡ told.ReadFault)
    ⊎ (found ≡ Some (edits_fault fault)) → EditsSays found (edits_fault fault)
unfolding edits_fault
says_fault found told.ReadFault h = tt
says_fault found (told.BadByte at byte) h =
    ⊎_elim (λ (e : told.BadByte at byte ≡ told.ReadFault). cc) (λ (e : found ≡ Some (BadByte at byte)). e) h
says_fault found (told.TooLarge at) h =
    ⊎_elim (λ (e : told.TooLarge at ≡ told.ReadFault). cc) (λ (e : found ≡ Some (TooLarge at)). e) h
says_fault found told.TooLong h = ⊎_elim (λ (e : told.TooLong ≡ told.ReadFault). cc) (λ (e : found ≡ Some TooLong). e) h
says_fault found told.NoMemory h = tt

-- only a failed fetch is told as one
pub fault_read : (fault : TokenFault) → edits_fault fault ≡ ReadFault → fault ≡ told.ReadFault
unfolding edits_fault
fault_read told.ReadFault e = refl
fault_read (told.BadByte at byte) e = cc
fault_read (told.TooLarge at) e = cc
fault_read told.TooLong e = cc
fault_read told.NoMemory e = cc

-- a fault in the place of a number that may be any
any_fault : (bytes : List ℕ) (k n : ℕ) (fault : TokenFault) → IsAnswer bytes n (Err fault) →
    EditsSays (any_at bytes k n) (edits_fault fault)
unfolding any_at any_test none_left_in_edit
any_fault bytes k n fault answer =
    says_fault (any_at bytes k n) fault
    (⊎_elim (λ (e : fault ≡ told.ReadFault). inl e) (λ (h : GaveAll bytes n × (first_fault bytes ≡ Some fault)).
    inr (rw (past_all bytes n h.0, h.1) refl)) answer)

pub any_stopped : {bytes : List ℕ} {x : ℕ} {fault : EditsFault} (k : ℕ) → HasFault edits_fault bytes x fault →
    EditsSays (any_at bytes k (tokens_before bytes x)) fault
any_stopped {bytes} {x} k h = rw (← h.same) at (any_fault bytes k (tokens_before bytes x) h.token_fault h.answer)

any_ended : (bytes : List ℕ) (k n : ℕ) → IsAnswer bytes n (Ok None) → any_at bytes k n ≡ Some (Missing k)
unfolding any_at any_test none_left_in_edit
any_ended bytes k n answer = rw (past_all bytes n answer.0, answer.1) refl

pub any_missing : {bytes : List ℕ} {x y : ℕ} (k : ℕ) → HasNext bytes x y None → any_at bytes k (tokens_before bytes x) ≡
    Some (Missing k)
any_missing {bytes} {x} k h = any_ended bytes k (tokens_before bytes x) h.answer

pub any_there : (bytes : List ℕ) (k n : ℕ) (t : Token) → slice_get (tokens bytes) n ≡ Some t → any_at bytes k n ≡ None
unfolding any_at any_test
any_there bytes k n t found = rw found refl

pub any_within : (bytes : List ℕ) (k n : ℕ) → n < length (tokens bytes) → any_at bytes k n ≡ None
any_within bytes k n within =
    any_there bytes k n _ (slice_get-get_or (tokens bytes) n (record { value = 0; at = 0 }) within)

-- a number was taken
pub takes : (bytes : List ℕ) (x y : ℕ) (t : Token) → HasNext bytes x y (Some t) → TakesNumber bytes x y t.value
takes bytes x y t h = record { token = t; found = h.answer; worth = refl; next = h.one_more }

pub worth_of : (bytes : List ℕ) (n : ℕ) (t : Token) → slice_get (tokens bytes) n ≡ Some t →
    token_value_at bytes n ≡ t.value
unfolding token_value_at
worth_of bytes n t found =
    cc (get_or_from_slice_get (tokens bytes) n t (record { value = 0; at = 0 }) found)

pub takes_value : {bytes : List ℕ} {x y value : ℕ} → TakesNumber bytes x y value →
    token_value_at bytes (tokens_before bytes x) ≡ value
takes_value {bytes} {x} h = worth_of bytes (tokens_before bytes x) h.token h.found ∙ sym h.worth

pub takes_any : {bytes : List ℕ} {x y value : ℕ} (k : ℕ) → TakesNumber bytes x y value →
    any_at bytes k (tokens_before bytes x) ≡ None
takes_any {bytes} {x} k h = any_there bytes k (tokens_before bytes x) h.token h.found

-- a number that is to be below a count
below_fault : (bytes : List ℕ) (k count n : ℕ) (fault : TokenFault) → IsAnswer bytes n (Err fault) →
    EditsSays (below_at bytes k count n) (edits_fault fault)
unfolding below_at below_test none_left_in_edit
below_fault bytes k count n fault answer =
    says_fault (below_at bytes k count n) fault
    (⊎_elim (λ (e : fault ≡ told.ReadFault). inl e) (λ (h : GaveAll bytes n × (first_fault bytes ≡ Some fault)).
    inr (rw (past_all bytes n h.0, h.1) refl)) answer)

pub below_stopped : {bytes : List ℕ} {x : ℕ} {fault : EditsFault} (k count : ℕ) → HasFault edits_fault bytes x fault →
    EditsSays (below_at bytes k count (tokens_before bytes x)) fault
below_stopped {bytes} {x} k count h =
    rw (← h.same) at (below_fault bytes k count (tokens_before bytes x) h.token_fault h.answer)

pub below_missing : {bytes : List ℕ} {x y : ℕ} (k count : ℕ) → HasNext bytes x y None →
    below_at bytes k count (tokens_before bytes x) ≡ Some (Missing k)
unfolding below_at below_test none_left_in_edit
below_missing {bytes} {x} k count h = rw (past_all bytes (tokens_before bytes x) h.answer.0, h.answer.1) refl

pub below_outside : {bytes : List ℕ} {x y : ℕ} (k count : ℕ) (t : Token) → HasNext bytes x y (Some t) →
    count ≤ t.value →
    below_at bytes k count (tokens_before bytes x) ≡ Some (Range t.at t.value 0 (count - 1))
unfolding below_at below_test
below_outside k count t h outside = rw h.answer (cond-false (nat_lt t.value count) None (Some
    (Range t.at t.value 0 (count - 1)))
    (le-ltb t.value count outside))

pub below_inside : (bytes : List ℕ) (k count n : ℕ) (t : Token) → slice_get (tokens bytes) n ≡ Some t →
    t.value < count → below_at bytes k count n ≡ None
unfolding below_at below_test
below_inside bytes k count n t found inside =
    rw found (cond-true (nat_lt t.value count) None (Some (Range t.at t.value 0 (count - 1)))
    (lt-ltb t.value count inside))

pub takes_below : {bytes : List ℕ} {x y value : ℕ} (k count : ℕ) → TakesNumber bytes x y value → value < count →
    below_at bytes k count (tokens_before bytes x) ≡ None
takes_below {bytes} {x} k count h inside =
    below_inside bytes k count (tokens_before bytes x) h.token h.found (omega (arith, h.worth, inside))

-- some numbers

pub any_from_there : (bytes : List ℕ) (k n R : ℕ) → n + R ≤ length (tokens bytes) → any_from bytes k n R ≡ None
unfolding any_from
any_from_there bytes k n R there =
    first_none_from R (λ j. any_at bytes k (n + j)) (λ j h. any_within bytes k (n + j) (omega arith))

any_from_at : (bytes : List ℕ) (k n R j : ℕ) (fault : EditsFault) → j < R → n + j ≤ length (tokens bytes) →
    any_at bytes k (n + j) ≡ Some fault → any_from bytes k n R ≡ Some fault
unfolding any_from
any_from_at bytes k n R j fault few there here = first_found j R (λ l. any_at bytes k (n + l)) fault few
    (first_none_from j (λ l. any_at bytes k (n + l)) (λ l h. any_within bytes k (n + l) (omega arith))) here

few_values : (bytes : List ℕ) (k n : ℕ) → length (values_from bytes k n) ≡ n → 0 < n → k + n ≤ length (tokens bytes)
unfolding values_from
few_values bytes k n all some = grind (arith, length-map, length-take, length-drop)

-- as many values were added as tokens were passed
added_length : {bytes : List ℕ} {x y n : ℕ} {old new : List ℕ} → AddsValues bytes x y n old new →
    length new ≡ length old + n → length (values_from bytes (tokens_before bytes x) n) ≡ n
added_length {bytes} {x} {n} {old} adds all = omega (
  arith,
  (ap length adds.values
      ∙ length-append old (values_from bytes (tokens_before bytes x) n)),
  all,
)

pub takes_values : {bytes : List ℕ} {x y n : ℕ} {old new : List ℕ} → AddsValues bytes x y n old new →
    length new ≡ length old + n → 0 < n → TakesValues bytes x y n old new
takes_values {bytes} {x} {n} adds all some = record {
  there = few_values bytes (tokens_before bytes x) n (added_length adds all) some;
  values = adds.values;
  next = adds.given;
}

pub takes_values_any : {bytes : List ℕ} {x y n : ℕ} {old new : List ℕ} (k : ℕ) → TakesValues bytes x y n old new →
    any_from bytes k (tokens_before bytes x) n ≡ None
takes_values_any {bytes} {x} {n} k h = any_from_there bytes k (tokens_before bytes x) n h.there

-- the file ends, or is faulty, before the last of them
pub values_missing : {bytes : List ℕ} {x y n : ℕ} {old new : List ℕ} (k R : ℕ) → AddsValues bytes x y n old new →
    n < R →
    IsAnswer bytes (tokens_before bytes y) (Ok None) → any_from bytes k (tokens_before bytes x) R ≡ Some (Missing k)
values_missing {bytes} {x} {y} {n} k R adds few answer =
    any_from_at bytes k (tokens_before bytes x) R n (Missing k) few (omega (arith, adds.given, answer.0))
    (rw adds.given at (any_ended bytes k (tokens_before bytes y) answer))

values_faulty : {bytes : List ℕ} {x y n : ℕ} {old new : List ℕ} (k R : ℕ) (fault : TokenFault) →
    AddsValues bytes x y n old new → n < R → IsAnswer bytes (tokens_before bytes y) (Err fault) →
    EditsSays (any_from bytes k (tokens_before bytes x) R) (edits_fault fault)
values_faulty {bytes} {x} {y} {n} k R fault adds few answer = ⊎_elim
    (λ (read : fault ≡ told.ReadFault). says_fault (any_from bytes k (tokens_before bytes x) R) fault (inl read))
    (λ (h : GaveAll bytes (tokens_before bytes y) × (first_fault bytes ≡ Some fault)).
    says_same (any_at bytes k (tokens_before bytes y)) (any_from bytes k (tokens_before bytes x) R) (edits_fault fault)
    (λ (here : any_at bytes k (tokens_before bytes y) ≡ Some (edits_fault fault)).
    any_from_at bytes k (tokens_before bytes x) R n (edits_fault fault) few (omega (arith, adds.given, h.0))
    (rw adds.given at here))
    (any_fault bytes k (tokens_before bytes y) fault answer))
    answer

pub values_stopped : {bytes : List ℕ} {x y n : ℕ} {old new : List ℕ} {fault : EditsFault} (k R : ℕ)
    (next : TokenFault) →
    AddsValues bytes x y n old new → n < R → IsAnswer bytes (tokens_before bytes y) (Err next) →
    fault ≡ edits_fault next → EditsSays (any_from bytes k (tokens_before bytes x) R) fault
values_stopped k R next adds few answer same =
    rw (← same) at (values_faulty k R next adds few answer)
